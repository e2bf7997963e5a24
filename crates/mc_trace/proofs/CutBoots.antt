-- A boot that is traced from power-on up to a cut, or to its end.
use Rattle.std.specs.Prelude.{◌≡◌, ℕ, zero, suc, ◌<◌, ◌≤◌, ◌⊎◌, Bool, true, false, List, [], ◌∷◌, ◌++◌, length, take, drop, slice_get, Option, Some, None, refl}
use Rattle.std.specs.Io.KnownBytes.{Appends}
use Rattle.std.proofs.Common.{arith, inl, inr, sym, ap, subst, append-nil, ◌∙◌}
use Rattle.mc_flash.specs.{Flash.{Content}, Geometry.{Geometry}, declared.op.Op.{Op}}
use Rattle.mc_output.specs.{facts.Prefixes.{IsOut, out_all, out_begun, out_prefix, out_more}, Text.{AppendsPrefix}}
use Rattle.mc_trailer.specs.declared.tables.SwapType.{SwapType}
use Rattle.mc_boot.specs.{Boot.{Progress, begun, HasCome}, Plan.{plan, PowerOn}, facts.Run.{come_at, come_count, come_prefix, come_ops}}
use Rattle.mc_boot.specs.Outcome.{happening, ops_of}
use Rattle.mc_explore.specs.Boots.{at_cut, content_or}
use Rattle.mc_trace.specs.{declared.trace.Span.{Span}, Trace.{operation_lines, up_to, head_line, cut_line, cut_text, last_text}}

get_dropped : (ops : List Op) (n : ℕ) → slice_get (drop n ops) 0 ≡ slice_get ops n
get_dropped [] zero = refl
get_dropped [] (suc n) = refl
get_dropped (op ∷ ops) zero = refl
get_dropped (op ∷ ops) (suc n) = get_dropped ops n

module _ (span : Span) (from : PowerOn) where
  abbrev list : List Op
  list = (plan from).list

  -- What is written up to a cut, and in all.
  module _ (p : Progress) (is : p ≡ begun from.rules (plan from)) where
    pub written_cut : (cut : ℕ) → operation_lines span from.geometry p.count (up_to (Some cut) p.count p.to_come) from.content ≡ operation_lines span from.geometry 0 (take cut list) from.content
    written_cut cut = grind arith

    pub written_all : operation_lines span from.geometry p.count (up_to None p.count p.to_come) from.content ≡ operation_lines span from.geometry 0 list from.content
    written_all = ap (λ (x : Progress). operation_lines span from.geometry x.count (up_to None x.count x.to_come) from.content) is

  -- The boot has come to the cut, which can occur.
  module _ (q : Progress) (t : Content) (cut : ℕ) (come : HasCome from q t) (at_most : q.count ≤ cut) (end : (q.to_come ≡ []) ⊎ (q.count ≡ cut)) (inside : cut < length (ops_of from)) where
    there : q.count ≡ cut
    there = elim end [ inl none ↦ absurd (omega (arith, come_ops from q t come none, at_most, inside)) | inr at ↦ at ]

    goes_on : q.faulted ≡ false
    goes_on = by q.faulted refl
      where
        by : (b : Bool) → q.faulted ≡ b → q.faulted ≡ false
        by false e = e
        by true e =
            let none : happening from.geometry (drop q.count list) t ≡ [] = (come.refused e).0 in
            let all : ops_of from ≡ take q.count list = come_prefix from q t come ∙ ap (λ os. take q.count list ++ os) none ∙ append-nil (take q.count list) in
            absurd (omega (arith, ap (λ (os : List Op). length os) all, come_count from q t come, at_most, inside))

    pub next_there : slice_get q.to_come 0 ≡ slice_get list cut
    next_there = grind (arith, goes_on, get_dropped, there)

    pub left_there : t ≡ at_cut from cut
    unfolding at_cut
    left_there = ap (content_or from.content) (sym (come_at from q t come)) ∙ ap (at_cut from) there

  -- ---- what comes out of a boot that has this type and begins as p

  module _ (p : Progress) (is : p ≡ begun from.rules (plan from)) (boot : ℕ) (kind : SwapType) (kind_is : kind ≡ p.kind) (before mid : Option (List ℕ)) where
    abbrev lines : Option ℕ → List ℕ
    lines until = operation_lines span from.geometry p.count (up_to until p.count p.to_come) from.content

    head : head_line boot kind ≡ head_line boot (plan from).kind
    head = ap (head_line boot) kind_is ∙ ap (λ (x : Progress). head_line boot x.kind) is

    head_out : (rest : List ℕ) → Appends before mid (head_line boot kind) → IsOut before mid (head_line boot (plan from).kind ++ rest) rest
    head_out rest p = out_more before before mid (head_line boot (plan from).kind ++ rest) (head_line boot (plan from).kind) rest (out_begun before _) (subst (Appends before mid) head p)

    pub head_begun : (rest : List ℕ) → AppendsPrefix before mid (head_line boot kind) → AppendsPrefix before mid (head_line boot (plan from).kind ++ rest)
    head_begun rest p = out_prefix before before mid (head_line boot (plan from).kind ++ rest) (head_line boot (plan from).kind) rest (out_begun before _) (subst (AppendsPrefix before mid) head p)

    module _ (first : Appends before mid (head_line boot kind)) (new : Option (List ℕ)) where
      pub last_out : Appends mid new (lines None) → Appends before new (last_text span from.rules from.geometry boot from.content)
      last_out q =
          let rest = operation_lines span from.geometry 0 list from.content in
          let o = subst (IsOut before mid (last_text span from.rules from.geometry boot from.content)) (sym (append-nil rest)) (head_out rest first) in
          out_all before new _ (out_more before mid new _ rest [] o (subst (Appends mid new) (written_all p is) q))

      pub last_begun : AppendsPrefix mid new (lines None) → AppendsPrefix before new (last_text span from.rules from.geometry boot from.content)
      last_begun q =
          let rest = operation_lines span from.geometry 0 list from.content in
          let o = subst (IsOut before mid (last_text span from.rules from.geometry boot from.content)) (sym (append-nil rest)) (head_out rest first) in
          out_prefix before mid new _ rest [] o (subst (AppendsPrefix mid new) (written_all p is) q)

      -- The lines up to a cut, and what comes at the cut.
      module _ (cut : ℕ) where
        abbrev prefix : List ℕ
        prefix = operation_lines span from.geometry 0 (take cut list) from.content

        pub cut_begun : AppendsPrefix mid new (lines (Some cut)) → AppendsPrefix before new (cut_text span from.rules from.geometry boot from.content cut)
        cut_begun q = out_prefix before mid new _ prefix _ (head_out _ first) (subst (AppendsPrefix mid new) (written_cut p is cut) q)

        module _ (here : Appends mid new (lines (Some cut))) where
          come_out : IsOut before new (cut_text span from.rules from.geometry boot from.content cut) (cut_line from.geometry cut (slice_get list cut))
          come_out = out_more before mid new _ prefix _ (head_out _ first) (subst (Appends mid new) (written_cut p is cut) here)

          -- Nothing is there.
          pub cut_out_none : slice_get list cut ≡ None → Appends before new (cut_text span from.rules from.geometry boot from.content cut)
          cut_out_none none = out_all before new _ (subst (λ o. IsOut before new (cut_text span from.rules from.geometry boot from.content cut) (cut_line from.geometry cut o)) none come_out)

          module _ (op : Op) (next : slice_get list cut ≡ Some op) (last : Option (List ℕ)) where
            at_op : IsOut before new (cut_text span from.rules from.geometry boot from.content cut) (cut_line from.geometry cut (Some op) ++ [])
            at_op = subst (IsOut before new (cut_text span from.rules from.geometry boot from.content cut)) (sym (append-nil (cut_line from.geometry cut (Some op))))
                (subst (λ o. IsOut before new (cut_text span from.rules from.geometry boot from.content cut) (cut_line from.geometry cut o)) next come_out)

            pub cut_out : (x : Geometry) → x ≡ from.geometry → Appends new last (cut_line x cut (Some op)) → Appends before last (cut_text span from.rules from.geometry boot from.content cut)
            cut_out x layout_is q = out_all before last _ (out_more before new last _ (cut_line from.geometry cut (Some op)) [] at_op (subst (λ y. Appends new last (cut_line y cut (Some
                op))) layout_is q))

            pub cut_line_begun : (x : Geometry) → x ≡ from.geometry → AppendsPrefix new last (cut_line x cut (Some op))
                → AppendsPrefix before last (cut_text span from.rules from.geometry boot from.content cut)
            cut_line_begun x layout_is q = out_prefix before new last _ (cut_line from.geometry cut (Some op)) [] at_op (subst (λ y. AppendsPrefix new last (cut_line y cut (Some op))) layout_is q)
