-- The text of `--explain`: the canonical form of a filter expression, and the steps of the filter.
use Rattle.std.specs.Prelude.{ℕ, ◌+◌, List, [], ◌∷◌, ◌++◌}
use Rattle.std.specs.Fmt.{decimal}
use Rattle.line_io.specs.Lines.{line_feed, space}
use Rattle.packet_filter.specs.Printing.{canonical, step_text}
use Rattle.packet_filter.specs.Trees.{tree_of}
use Rattle.packet_filter.specs.Step.{Step}

-- the lines of the steps, numbered from this number on
abbrev pub steps_text : ℕ → List Step → List ℕ
steps_text number [] = []
steps_text number (step ∷ steps) =
    (decimal number ++ space ∷ step_text step ++ line_feed ∷ []) ++ steps_text (number + 1) steps

-- the line of the canonical form of a filter, and the lines of its steps
abbrev pub explanation_text : List Step → List ℕ
explanation_text filter = (canonical (tree_of filter) ++ line_feed ∷ []) ++ steps_text 0 filter
