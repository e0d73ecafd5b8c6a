use Rattle.std.proofs.Common.{◌∙◌, ap, arith, refl}
use Rattle.capture_reader.specs.Readers.{reader_offset, reader_shown, shown_of}
use Rattle.packet_dump.proofs.SessionLemmas.{next_ahead, parsed_ahead, passed, processed_ahead}
use Rattle.packet_dump.proofs.session.Session.process_packets.Goals as goal

pub packets-init : goal.packets-init
packets-init c =
    let self = c.args.self.now in
    let shown = c.shown-shown.ensures ∙ ap reader_shown c.replace-capture.ensures.value in
    record {
      parsed = λ options read written was. parsed_ahead options self _ _ read written shown was;
      within = omega arith;
      counts = omega (arith, c.requires.counts);
      fewer = c.requires.fewer;
      failed = refl;
    }

pub process_packet-requires : goal.process_packet-requires
process_packet-requires c =
    let invariant = c.packets.invariant in
    omega (arith, invariant.counts, invariant.within, c.requires.fits)

pub returns-in_err-process_packet-clause-failed : goal.returns-in_err-process_packet-clause-failed
returns-in_err-process_packet-clause-failed c = c.process_packet.ensures.failed ∙ c.packets.invariant.failed

pub next_packet-requires : goal.next_packet-requires
next_packet-requires c = rw c.replace-capture.ensures.value c.packets.invariant.within

pub packets-smaller : goal.packets-smaller
packets-smaller c =
    let found = rw c.replace-capture.ensures.value at c.in-Some.ensures.some in
    omega (arith, found.1, found.2)

pub packets-preserved : goal.packets-preserved
packets-preserved c =
    let capture = c.args.self.now.capture in
    let invariant = c.packets.invariant in
    let done = c.in_ok-process_packet.ensures in
    let found = rw c.replace-capture.ensures.value at c.in-Some.ensures.some in
    let ahead = c.packets.ahead in
    let shown = shown_of c.packets.shown in
    record {
      parsed = λ options read written was.
          next_ahead options c.process_packet.new.self capture ahead c.next_packet.new.ahead (shown_of c.in-Some.next)
          read written found.0
          (processed_ahead options c.packets.self c.process_packet.new.self capture ahead shown read written done.packet
          invariant.fewer (invariant.parsed options read written was));
      within = found.2;
      counts = omega (arith, invariant.counts, done.counts, found.1);
      fewer = c.in-Some.ensures.fewer;
      failed = done.failed ∙ invariant.failed;
    }

pub advance_past-requires : goal.advance_past-requires
advance_past-requires c = rw (c.in-None.ensures.none, c.replace-capture.ensures.value) c.packets.invariant.within

pub returns-clause-processed : goal.returns-clause-processed
returns-clause-processed c =
    let capture = c.args.self.now.capture in
    let invariant = c.packets.invariant in
    let done = c.in_ok-process_packet.ensures in
    let reads = rw (c.in-None.ensures.none, c.replace-capture.ensures.value) at c.advance_past.ensures.reads in
    let ahead = c.packets.ahead in
    let shown = shown_of c.packets.shown in
    λ options read written was.
    passed options c.process_packet.new.self capture c.advance_past.new.self ahead read written reads
    (processed_ahead options c.packets.self c.process_packet.new.self capture ahead shown read written done.packet
    invariant.fewer (invariant.parsed options read written was))

pub returns-clause-counts : goal.returns-clause-counts
returns-clause-counts c =
    let invariant = c.packets.invariant in
    let same = ap reader_offset c.replace-capture.ensures.value in
    omega (
      arith,
      invariant.counts,
      c.in_ok-process_packet.ensures.counts,
      c.advance_past.ensures.offset,
      same,
      c.in-None.ensures.none,
    )

pub returns-clause-failed : goal.returns-clause-failed
returns-clause-failed c = c.in_ok-process_packet.ensures.failed ∙ c.packets.invariant.failed
