use Rattle.std.proofs.{Common.{ap, refl, rules, subst, ◌≡◌, ◌∙◌}, lemmas.Result.{err_from_is_err_and}}
use Rattle.mc_boot.specs.declared.kind.Kind.{Kind}
use Rattle.mc_boot.specs.declared.kind.Kind.TheVariants as kinds
use Rattle.mc_command.specs.{Inspections.{RefusesSwap}, declared.inspect.Images.{Images}}
use Rattle.mc_command.proofs.inspect.named_start.Goals as goal
use Rattle.mc_flash.specs.Geometry.{Geometry}
use Rattle.mc_options.specs.declared.refusal.Refusal.{Refusal}
use Rattle.mc_start.specs.Start.{Started}

pub returns-in_ok-named-in-Some-clause-named : goal.returns-in_ok-named-in-Some-clause-named
returns-in_ok-named-in-Some-clause-named c = (c.in-Some.images, c.in-Some.is, c.in_ok-named-in-Some.named, search rules, refl)

-- In the layout of the dump.
laid_out : (images : Images) (g h : Geometry) (kind : Kind) (e : Refusal) → g ≡ h → RefusesSwap images g kind e → RefusesSwap images h kind e
laid_out images g h kind e same = subst (λ (y : Geometry). RefusesSwap images y kind e) same

pub returns-in_err-named-in-Some-clause-refused : goal.returns-in_err-named-in-Some-clause-refused
returns-in_err-named-in-Some-clause-refused c =
    let p = err_from_is_err_and c.from_residual.result c.from_residual.ensures.1 in
    let layout = c.layout.ensures.value ∙ ap (λ (s : Started). s.geometry) c.start-start.ensures in
    rw (p.1, p.2) (c.in-Some.images, c.in-Some.is, laid_out c.in-Some.images _ _ kinds.None _ layout c.in_err-named-in-Some.ensures.refused)
