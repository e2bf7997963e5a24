use Rattle.std.proofs.{Common.{[], Some, None, map, option_map, append-nil, ◌++◌}, lemmas.List.{map-append}}
use Rattle.mc_life.proofs.Naming.{AreNamed, names_line}
use Rattle.mc_life.proofs.script.Script.names.Goals as goal

pub lines-preserved-in_ok-push : goal.lines-preserved-in_ok-push
lines-preserved-in_ok-push c =
    let here : AreNamed c.args.self.now (Some c.in-Some.text.now) (map (λ t. t.now) c.lines.names.items) = rw c.in-Some.is at c.lines.invariant in
    let more = names_line _ _ _ here _ _ c.next_line.ensures.lines (Some c.in-Some-file_in.name.now) c.in-Some-file_in.ensures in
    rw c.in_ok-push.ensures.items (simp map-append more)

pub lines-preserved : goal.lines-preserved
lines-preserved c =
    let here : AreNamed c.args.self.now (Some c.in-Some.text.now) (map (λ t. t.now) c.lines.names.items) = rw c.in-Some.is at c.lines.invariant in
    let found = rw c.in_default-file_in.is at c.file_in.ensures in
    let more : AreNamed c.args.self.now (option_map (λ t. t.now) c.next_line.result.1) (map (λ t. t.now) c.lines.names.items ++ []) =
    names_line _ _ _ here _ _ c.next_line.ensures.lines None found in
    rw append-nil at more
