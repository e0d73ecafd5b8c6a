-- Filter options.
use Rattle.std.proofs.Common.{Option, Some, None}
use Rattle.packet_filter.specs.Trees.{Expr}
use Rattle.packet_dump.specs.Filters.{AddsOption, IsValidOption}
use Rattle.packet_dump.specs.declared.options.FilterText.{FilterText}

-- An option that is added has an expression.
pub has_expression : (before : Option Expr) (place : Option FilterText) (next : Option Expr)
    → AddsOption before place next → IsValidOption place
has_expression before None next adds = tt
has_expression before (Some option) next adds = (adds.0, adds.1)
