use Rattle.std.proofs.Common.{ap}
use Rattle.mc_trace.specs.declared.operation.Part.TheVariants as parts
use Rattle.mc_trace.proofs.layout.line_of_field.Goals as goal

pub returns : goal.returns
returns c = ap (λ at. record { slot = c.args.slot; at = at; part = parts.Field c.args.field }) c.place.ensures.place
