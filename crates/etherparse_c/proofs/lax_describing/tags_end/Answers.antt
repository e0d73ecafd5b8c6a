use Rattle.std.proofs.Common.{List, map, ap, sym, false, ◌∙◌}
use Rattle.etherparse.specs.LaxViews.{lax_extension_of}
use Rattle.etherparse.specs.Types.LaxLinkExtSlice.{LaxLinkExtSlice}
use Rattle.etherparse.specs.Types.LenSource.TheVariants as source
use Rattle.etherparse_c.specs.LaxAnswers.{tags_end}
use Rattle.etherparse_c.proofs.LaxLemmas.{extensions_same}
use Rattle.etherparse_c.proofs.lax_describing.tags_end.Goals as goal

pub returns : goal.returns
returns c =
    c.lax_exts_len_source.ensures
    ∙ ap (λ (e : List LaxLinkExtSlice). tags_end source.Slice (map lax_extension_of e)) c.as_slice.ensures.value
    ∙ ap (tags_end source.Slice) (sym (extensions_same false c.args.packet.now.link_exts.items))
