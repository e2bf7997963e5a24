use Rattle.std.specs.Prelude.{Err, List, Ok, ℕ}
use Rattle.std.proofs.Common.{◌≡◌, refl, rules, subst}
use Rattle.mc_boot.specs.declared.kind.Kind.{Kind}
use Rattle.mc_command.specs.Inspections.{IsSwapOf, RefusesSwap, first_of, second_of}
use Rattle.mc_command.specs.declared.inspect.Images.{Images}
use Rattle.mc_command.proofs.inspect.Images.start_of.Goals as goal
use Rattle.mc_flash.specs.Geometry.{Geometry}
use Rattle.mc_options.specs.declared.refusal.Refusal.TheVariants as refusals
use Rattle.mc_start.specs.{Start.{Started, Starts}, declared.start.StartError.{StartError}}
use Rattle.mc_trailer.specs.declared.tables.Rules.{Rules}

-- By the images in the order of the slots.
by_order : (images : Images) (g : Geometry) (r : Rules) (kind : Kind) (a b : List ℕ) (plain s : Started) → a ≡ first_of kind images.a.items images.b.items
    → b ≡ second_of kind images.a.items images.b.items → Starts g kind a b (Ok plain)
    → s ≡ record { geometry = plain.geometry; rules = r; content = plain.content; named = plain.named } → IsSwapOf images g r kind s
by_order images g r kind a b plain s first second made is = record {
  plain = plain;
  made = subst (λ (y : List ℕ). Starts g kind (first_of kind images.a.items images.b.items) y (Ok plain)) second (subst (λ (x : List ℕ). Starts g kind x b (Ok plain)) first made);
  start_is = is;
}

-- Or why there is none.
by_fault : (images : Images) (g : Geometry) (kind : Kind) (a b : List ℕ) (error : StartError) → a ≡ first_of kind images.a.items images.b.items
    → b ≡ second_of kind images.a.items images.b.items → Starts g kind a b (Err error) → RefusesSwap images g kind (refusals.Start error)
by_fault images g kind a b error first second refused = (
  error,
  refl,
  subst (λ (y : List ℕ). Starts g kind (first_of kind images.a.items images.b.items) y (Err error)) second (subst (λ (x : List ℕ). Starts g kind x b (Err error)) first refused),
)

pub returns-in-Err-clause-refused : goal.returns-in-Err-clause-refused
returns-in-Err-clause-refused c =
    let first : c.in_order.result.0.now ≡ first_of c.args.kind c.args.self.now.a.items c.args.self.now.b.items = search rules in
    let second : c.in_order.result.1.now ≡ second_of c.args.kind c.args.self.now.a.items c.args.self.now.b.items = search rules in
    by_fault c.args.self.now c.args.layout.now c.args.kind c.in_order.result.0.now c.in_order.result.1.now c.in-Err.error first second c.in-Err.ensures

pub returns-in-Ok-clause-swap : goal.returns-in-Ok-clause-swap
returns-in-Ok-clause-swap c =
    let first : c.in_order.result.0.now ≡ first_of c.args.kind c.args.self.now.a.items c.args.self.now.b.items = search rules in
    let second : c.in_order.result.1.now ≡ second_of c.args.kind c.args.self.now.a.items c.args.self.now.b.items = search rules in
    by_order _ _ _ _ _ _ _ _ first second c.in-Ok.ensures c.with_rules.ensures
