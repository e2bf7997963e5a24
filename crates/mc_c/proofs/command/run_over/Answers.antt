use Rattle.std.specs.Prelude.{Some, is_some, map, string_bytes}
use Rattle.std.proofs.Common.{[], ap, inl, subst, ◌∙◌, ◌≡◌}
use Rattle.mc_command.specs.Commands.{RunsLine}
use Rattle.mc_c.specs.{Disks.{bytes_at}, Lines.{words_in}}
use Rattle.mc_c.proofs.command.run_over.Goals as goal

pub returns-in-Ok-clause-runs : goal.returns-in-Ok-clause-runs
returns-in-Ok-clause-runs c =
    let holds = bytes_at c.args.disk.now in
    let after = Some c.run.new.out.writer.items in
    let failed = is_some c.run.new.out.failure in
    let texts = map string_bytes c.as_slice.result.now in
    let same : texts ≡ words_in c.args.words.now = ap (map string_bytes) c.as_slice.ensures.value ∙ c.in-Ok.ensures.words in
    let from_nothing = subst (λ xs. RunsLine texts holds (Some c.args.input.now) (Some xs) after failed c.run.result) c.requires c.run.ensures.runs in
    inl (failed, subst (λ ws. RunsLine ws holds (Some c.args.input.now) (Some []) after failed c.run.result) same from_nothing)
