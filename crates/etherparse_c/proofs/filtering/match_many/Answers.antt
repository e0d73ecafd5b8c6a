use Rattle.std.specs.List.{slice_range}
use Rattle.etherparse_c.specs.FilterAnswers.{IsMatch}
use Rattle.etherparse_c.specs.ManyAnswers.{frame_end}
use Rattle.etherparse_c.proofs.FilterLemmas.{one_more}
use Rattle.etherparse_c.proofs.filtering.match_many.Goals as goal
use Rattle.std.proofs.Common.{ℕ, subst}

pub frames-preserved : goal.frames-preserved
frames-preserved c =
    let filter = c.args.filter.now in
    let packet = slice_range c.args.bytes.now c.frames.start (frame_end c.args.ends.now c.frames.index) in
    one_more filter c.args.entry c.args.bytes.now c.args.ends.now c.args.wire_lens.now c.args.matches.now c.frames.matches
    c.matches_packet.result c.frames.start c.frames.index c.frames.matched c.frames.invariant c.frames-test.true
    c.if-end-start.false c.if-bytes-end.false
    (subst (λ (len : ℕ). IsMatch filter c.args.entry packet len c.matches_packet.result) c.wire_len_at-wire_len.ensures
    c.matches_packet.ensures)
