use Rattle.std.proofs.{Common.{arith, codes, inl, inr}, lemmas.{Slice.Eq.{bytes_eq-Decides}, Str.Pattern.{contains_text, strip_prefix_char}}}
use Rattle.mc_options.proofs.layout_file.value_in.Goals as goal
use Rattle.mc_options.proofs.layout_file.value_in.Goals.{then-contains-via-then-contains, then-contains-via-else-contains+then-eq}

pub returns-then-contains : goal.returns-then-contains
returns-then-contains c = λ value has. elim has [
  | inl direct ↦
      let none = strip_prefix_char 61 c.args.rest.now c.strip_prefix.result c.strip_prefix.ensures.cases (omega arith) in
      (rw c.in_default.is at none) direct.0 direct.1
  | inr spaced ↦ elim c.then-contains.branch [
    | then-contains-via-then-contains w ↦ spaced.0 ((contains_text c.contains.result (codes "=") c.args.rest.now c.contains.ensures.cases).0 w.if-contains.true)
    | then-contains-via-else-contains+then-eq w ↦ spaced.1 (grind (arith, bytes_eq-Decides))
  ]
]

pub returns : goal.returns
returns c = inr (
  (λ has. let is = (contains_text c.contains.result (codes "=") c.args.rest.now c.contains.ensures.cases).1 has in let no = c.if-contains.false in absurd cc),
  (λ same. let not = c.if-eq.false in absurd (grind (arith, bytes_eq-Decides))),
  c.trim-2.ensures.trim,
)
