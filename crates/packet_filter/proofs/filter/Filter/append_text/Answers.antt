use Rattle.std.proofs.Common.{◌∙◌}
use Rattle.filter_language.specs.Trees.{tree_of}
use Rattle.filter_language.proofs.PrintingLemmas.{filter_appended}
use Rattle.packet_filter.proofs.filter.Filter.append_text.Goals as goal

pub returns : goal.returns
returns c =
    rw (← c.self.view_is)
    (filter_appended c.append_expression.result (tree_of c.self.inside.steps.items) c.as_slice.result.now
    c.args.output.now.items c.append_expression.new.output.items (c.as_slice.ensures.value ∙ c.self.invariant.0)
    c.append_expression.ensures.text c.append_expression.ensures.empty)
