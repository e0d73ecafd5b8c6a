use Rattle.std.proofs.Common.{length, option_copied}
use Rattle.capture_reader.proofs.OptionLemmas.{Reported}
use Rattle.capture_reader.proofs.interface.InterfaceOptions.parse.Given as goal

abbrev pub invariant-options : goal.invariant-options
invariant-options l = Reported l.fn.order l.fn.bytes l.rest (option_copied l.resolution) (option_copied l.offset)

abbrev pub decreases-options : goal.decreases-options
decreases-options l = length l.rest
