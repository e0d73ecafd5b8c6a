use Rattle.std.proofs.Common.{List, map, ap, sym, false, ◌+◌, ◌∙◌, arith}
use Rattle.etherparse.specs.LaxViews.{lax_extension_of}
use Rattle.etherparse.specs.LinkExtensions.{LinkExtension}
use Rattle.etherparse.specs.Types.LaxLinkExtSlice.{LaxLinkExtSlice}
use Rattle.etherparse_c.specs.Description.{tag_slots, tags_len}
use Rattle.etherparse_c.proofs.LaxLemmas.{extensions_same}
use Rattle.etherparse_c.proofs.lax_describing.tags.Goals as goal

pub describe_tags-requires-clause-place : goal.describe_tags-requires-clause-place
describe_tags-requires-clause-place c = omega (
  arith,
  c.requires,
  ap tags_len (extensions_same false c.args.packet.now.link_exts.items),
  ap (λ (e : List LaxLinkExtSlice). tags_len (map lax_extension_of e)) c.as_slice.ensures.value,
)

pub returns-clause-slots : goal.returns-clause-slots
returns-clause-slots c =
    c.describe_tags.ensures.slots
    ∙ ap (λ (e : List LaxLinkExtSlice). tag_slots c.args.offset (map lax_extension_of e)) c.as_slice.ensures.value
    ∙ ap (tag_slots c.args.offset) (sym (extensions_same false c.args.packet.now.link_exts.items))

pub returns-clause-end : goal.returns-clause-end
returns-clause-end c =
    c.describe_tags.ensures.end
    ∙ ap (λ (e : List LaxLinkExtSlice). c.args.offset + tags_len (map lax_extension_of e)) c.as_slice.ensures.value
    ∙ ap (λ (e : List LinkExtension). c.args.offset + tags_len e)
    (sym (extensions_same false c.args.packet.now.link_exts.items))
