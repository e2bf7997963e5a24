use Rattle.std.proofs.{Common.{◌≡◌, ℕ, List, ◌∷◌, ◌++◌, eqb, true, sym, ap, ◌∙◌}, lemmas.Bool.{and_parts, eqb-true}}
use Rattle.std.specs.Prelude.{◌&&◌, decimal}
use Rattle.mc_image.specs.{VersionText.{version_line}, declared.version.Version.{Version}}
use Rattle.mc_explore.proofs.labels.Label.text_of.Goals as goal

same_line : (a b : Version) → true ≡ (eqb a.major b.major && (eqb a.minor b.minor && (eqb a.revision b.revision && eqb a.build b.build))) → version_line a ≡ version_line b
same_line a b e =
    let major = and_parts (eqb a.major b.major) (eqb a.minor b.minor && (eqb a.revision b.revision && eqb a.build b.build)) (sym e) in
    let minor = and_parts (eqb a.minor b.minor) (eqb a.revision b.revision && eqb a.build b.build) major.1 in
    let others = and_parts (eqb a.revision b.revision) (eqb a.build b.build) minor.1 in
    cc (eqb-true a.major b.major major.0, eqb-true a.minor b.minor minor.0, eqb-true a.revision b.revision others.0, eqb-true a.build b.build others.1)

pub returns-then-self-image-clause-text : goal.returns-then-self-image-clause-text
returns-then-self-image-clause-text c =
    let of = c.args.self.now.image in
    c.as_str.ensures.value ∙ c.args.self.now.is ∙ ap (λ (v : List ℕ). v ++ (47 ∷ decimal of.size)) (same_line _ _ c.if-eq.ensures)
    ∙ ap (λ (n : ℕ). version_line c.args.image.now.version ++ (47 ∷ decimal n)) c.if-self-image.true

pub returns-then-self-image-clause-length : goal.returns-then-self-image-clause-length
returns-then-self-image-clause-length c = rw c.as_str.ensures.value c.args.self.now.short
