use Rattle.std.proofs.{Common.{ap, arith, codes, map, string_bytes, ◌≢◌}, lemmas.{Slice.Eq.{bytes_eq-Decides}}}
use Rattle.mc_options.proofs.Standing.{file_more, follow_word, none_left, stand_none, stand_over, word_more}
use Rattle.mc_options.specs.LayoutFiles.{Follow}
use Rattle.mc_options.proofs.layout_file.with_files.Goals as goal
use Rattle.mc_options.proofs.layout_file.with_files.Goals.{in-Some+then-eq, in_default}

pub words-init : goal.words-init
words-init g c = record { follow = Follow.all; stands = λ later stands. rw c.new-whole.ensures.items stands }

pub words-preserved-in-Some-file_in : goal.words-preserved-in-Some-file_in
words-preserved-in-Some-file_in g c =
    let named = rw c.in-Some-file_in.is at c.file_in.ensures in
    let added = c.in_ok-add_file.ensures.added in
    record {
      follow = Follow.file _ _ _ named c.words.invariant.follow;
      stands = file_more _ _ _ _ _ _ added.0 _ c.words.invariant.stands named added.1 added.2;
    }

pub words-preserved : goal.words-preserved
words-preserved g c =
    let none = rw c.in_default-file_in.is at c.file_in.ensures in
    let begins = ap (map string_bytes) c.in-Some.ensures.cases.0 in
    let differs : string_bytes c.in-Some.word.now ≢ codes "--" = λ same. let not = c.if-eq.false in absurd (grind (arith, bytes_eq-Decides)) in
    record {
      follow = follow_word (g.F.KnownFiles.holds c.args.files.now) _ _ _ (string_bytes c.in-Some.word.now) c.words.invariant.follow begins differs;
      stands = word_more _ _ _ _ _ _ (string_bytes c.in-Some.word.now) c.words.invariant.stands begins none differs c.in_ok-push_copy.ensures.added;
    }

pub returns-clause-stands : goal.returns-clause-stands
returns-clause-stands g c = elim c.match-split_first.branch [
  | in-Some+then-eq w ↦ stand_over _ _ _ (map string_bytes w.in-Some.after.now) _ _ (string_bytes w.in-Some.word.now) c.words.invariant.stands
      (ap (map string_bytes) w.in-Some.ensures.cases.0) (let end = w.if-eq.true in grind (arith, bytes_eq-Decides)) c.in_ok-push_copies.ensures.added
  | in_default w ↦ stand_none _ _ _ _ _ c.words.invariant.stands (none_left string_bytes c.words.rest.now w.in_default.ensures.cases) c.in_ok-push_copies.ensures.added
]
