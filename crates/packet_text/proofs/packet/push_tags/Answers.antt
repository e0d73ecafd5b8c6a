use Rattle.std.proofs.Common.{List, false, ◌++◌, ap, sym, ◌∙◌}
use Rattle.std.proofs.lemmas.Result.{on_ok_weaker}
use Rattle.etherparse.specs.LinkExtensions.{LinkExtension}
use Rattle.packet_text.specs.Links.{extensions_text}
use Rattle.packet_text.proofs.LayerLemmas.{extensions_in}
use Rattle.packet_text.proofs.packet.push_tags.Goals as goal

pub returns : goal.returns
returns c =
    on_ok_weaker c.push_extensions.result
    (λ pushed. pushed ∙ ap (λ (shown : List LinkExtension). c.args.output.now.items ++ extensions_text shown)
    (sym (extensions_in false c.args.extensions.now))) c.push_extensions.ensures
