use Rattle.std.proofs.Common.{refl, subst, slice_range, sym, ◌∙◌, ◌+◌, ◌-◌, ap, List, ℕ}
use Rattle.capture_reader.specs.BlockContents.{known_shown}
use Rattle.capture_reader.specs.Readers.{ShowsAhead, rest_after}
use Rattle.capture_reader.proofs.AheadLemmas.{block_ahead, no_block, no_packet_block, no_packet_content}
use Rattle.capture_reader.proofs.reader.CaptureReader.next_packet_block.Goals as goal

pub returns-in-Packet : goal.returns-in-Packet
returns-in-Packet c =
    let self = c.args.self.now in
    let n = c.args.ahead.now in
    let one = c.in-Some.block in
    let it = c.in-Packet.packet in
    let stated = rw (c.as_slice.ensures.value, c.rest_after-rest.ensures) at c.in-Some.ensures in
    let found = block_ahead self n c.args.order one.len one.content it c.requires.within c.requires.blocks stated.short
    stated.ok stated.within stated.least stated.fits stated.shown c.in-Packet.is in
    let shown = c.shown.ensures
    ∙ ap (λ (b : List ℕ). known_shown it.known (slice_range b (8 + it.start) (8 + it.start + it.kept)))
    c.rest_after-rest.ensures in
    (subst (ShowsAhead self n (n + one.len)) (sym shown) found.0, found.1, found.2)

pub returns-in-Section : goal.returns-in-Section
returns-in-Section c =
    let self = c.args.self.now in
    let rest = rest_after self c.args.ahead.now in
    let one = c.in-Some.block in
    let shows = rw (c.as_slice.ensures.value, c.rest_after-rest.ensures) at c.in-Some.ensures.shown in
    let body = slice_range rest 8 (one.len - 4) in (
      no_packet_block self c.args.order rest body one.content c.requires.blocks shows
          (no_packet_content body one.content c.in-Section.is),
      refl,
    )

pub returns-in-None : goal.returns-in-None
returns-in-None c =
    let self = c.args.self.now in
    let none = rw (c.as_slice.ensures.value, c.rest_after-rest.ensures) at c.in-None.ensures.none in
    (no_block self c.args.order (rest_after self c.args.ahead.now) c.requires.blocks none, refl)
