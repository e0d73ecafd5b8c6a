-- The filter of a command line: its filter options and its filter expression.
use Rattle.std.specs.Prelude.{◌≡◌, ◌⊎◌, ℕ, List, [], ◌∷◌, ◌++◌, Option, Some, None, codes, is_some, string_bytes, true}
use Rattle.packet_filter.specs.Refusals.{IsFilterText, RefusesText}
use Rattle.packet_filter.specs.Trees.{Expr, both_of, tree_of}
use Rattle.packet_filter.specs.Step.{Step}
use Rattle.packet_dump.specs.declared.filters.FilterFault.{FilterFault}
use Rattle.packet_dump.specs.declared.filters.FilterFault.TheVariants.{OutOfMemory, Wrong}
use Rattle.packet_dump.specs.declared.options.FilterKind.{FilterKind}
use Rattle.packet_dump.specs.declared.options.FilterKind.TheVariants.{Host, Port, Vlan, Net}
use Rattle.packet_dump.specs.declared.options.FilterText.{FilterText}
use Rattle.packet_dump.specs.declared.options.FilterTexts.{FilterTexts}

-- the qualifier of a filter option in an expression, with a space
abbrev pub qualifier : FilterKind → List ℕ
qualifier Host = codes "host "
qualifier Port = codes "port "
qualifier Vlan = codes "vlan "
qualifier Net = codes "net "

-- the expression of a filter option, such as `port 53`
abbrev pub option_text : FilterText → List ℕ
option_text option = qualifier option.kind ++ option.text.now

-- The filter options in the order of the command line.
abbrev pub option_places : FilterTexts → List (Option FilterText)
option_places options =
    options.sixth ∷ options.fifth ∷ options.fourth ∷ options.third ∷ options.second ∷ options.first ∷ []

-- ---- a filter

-- The option, if there is one, has an expression, which is added to those before it.
abbrev pub AddsOption : Option Expr → Option FilterText → Option Expr → Type 0
AddsOption before None tree = tree ≡ before
AddsOption before (Some option) tree =
    (own : Option Expr) × IsFilterText (option_text option) own × (tree ≡ both_of before own)

-- The options have expressions, which are added to those before them in this order.
abbrev pub AddsOptions : Option Expr → List (Option FilterText) → Option Expr → Type 0
AddsOptions before [] tree = tree ≡ before
AddsOptions before (place ∷ places) tree =
    (next : Option Expr) × AddsOption before place next × AddsOptions next places tree

-- The expression is that of all these options and of the text; a packet has to match each of them.
abbrev pub IsFilterOf : List (Option FilterText) → List ℕ → Option Expr → Type 0
IsFilterOf places text tree =
    (options own : Option Expr) × AddsOptions None places options × IsFilterText text own
    × (tree ≡ both_of options own)

-- the expression of a filter, if there is one
abbrev pub tree_in : Option (List Step) → Option Expr
tree_in None = None
tree_in (Some steps) = tree_of steps

-- The filter, if there is one, is not the empty one.
abbrev pub IsNonEmpty : Option (List Step) → Type 0
IsNonEmpty None = Unit {0}
IsNonEmpty (Some steps) = is_some (tree_of steps) ≡ true

-- ---- no filter

-- The text has this error, or the allocation failed.
abbrev pub IsTextFault : List ℕ → FilterFault → Type 0
IsTextFault text OutOfMemory = Unit {0}
IsTextFault text (Wrong wrong error) = (string_bytes wrong ≡ text) × RefusesText text error

abbrev pub IsOptionFault : Option FilterText → FilterFault → Type 0
IsOptionFault None fault = ⊥
IsOptionFault (Some option) fault = IsTextFault (option_text option) fault

-- The option, if there is one, has an expression.
abbrev pub IsValidOption : Option FilterText → Type 0
IsValidOption None = Unit {0}
IsValidOption (Some option) = (own : Option Expr) × IsFilterText (option_text option) own

-- The error is that of the first of these options that has one, else of the text.
abbrev pub IsFilterFault : List (Option FilterText) → List ℕ → FilterFault → Type 0
IsFilterFault [] text fault = IsTextFault text fault
IsFilterFault (place ∷ places) text fault =
    IsOptionFault place fault ⊎ (IsValidOption place × IsFilterFault places text fault)
