use Rattle.std.proofs.Common.{◌++◌, List, Option, ap, refl, ℕ, ◌∙◌}
use Rattle.std.proofs.lemmas.Result.{on_ok_weaker}
use Rattle.capture_reader.specs.Readers.{shown_of}
use Rattle.packet_dump.specs.Decoding.{packet_with}
use Rattle.packet_dump.specs.Shown.{first_after, latest_after}
use Rattle.packet_dump.specs.declared.decoded.CapturedPacket.{CapturedPacket}
use Rattle.packet_dump.proofs.DecodedLemmas.{is_decoded}
use Rattle.packet_dump.proofs.session.Session.process_packet.Goals as goal

pub returns-clause-packet : goal.returns-clause-packet
returns-clause-packet c =
    let self = c.args.self.now in
    let options = self.options in
    let decoded = c.decode.new.self in
    let same = c.decode.ensures.captured in
    let number = ap (λ (p : CapturedPacket). p.number) same in
    let this = c.instant_in-this.ensures in
    let first = c.first_after-first.ensures ∙ ap (λ (t : Option ℕ). first_after self.first t) this in
    let latest = c.latest_after-latest.ensures ∙ ap (λ (t : Option ℕ). latest_after self.latest t) this in
    let appended = c.in_ok-append_line.ensures in
    let one = packet_with decoded appended.0 in
    on_ok_weaker c.reassemble.result
    (λ reassembled before holds.
    let passed = reassembled before holds in
    record {
      one = one;
      answer = passed.0;
      after = passed.1;
      options = refl;
      decoded = is_decoded options decoded appended.0 c.decode.ensures.decoded appended.1;
      follows = λ stage. record {
        number = number;
        first = ap (λ (p : CapturedPacket). p.first) same ∙ first;
        latest = ap (λ (p : CapturedPacket). p.latest) same ∙ latest;
        shown = ap (λ (p : CapturedPacket). shown_of p.shown) same;
      };
      passes = passed.2;
      pooled = passed.3;
      output = passed.4 ∙ ap (λ (t : List ℕ). t ++ passed.0) appended.2;
      counted = c.in_ok-count.ensures;
      saves = λ packets. c.in_ok-save.ensures.saves options packets appended.0 c.decode.ensures.decoded.selected;
      progress = λ stage item. rw (first, latest) refl;
    }) c.reassemble.ensures
