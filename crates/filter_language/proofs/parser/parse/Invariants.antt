use Rattle.std.proofs.Common.{◌-◌, ◌≤◌, length}
use Rattle.filter_language.proofs.ParseLemmas.{HasRead}
use Rattle.filter_language.proofs.parser.parse.Given as goal

-- The parser has read the tokens up to this offset.
abbrev pub invariant-loop-parser : goal.invariant-loop-parser
invariant-loop-parser l = (l.at ≤ length l.text) × HasRead l.text l.at l.parser

abbrev pub decreases-loop-parser : goal.decreases-loop-parser
decreases-loop-parser l = length l.text - l.at
