use Rattle.std.proofs.Common.{ℕ, List, ap, false, ◌∙◌}
use Rattle.std.proofs.lemmas.Result.{on_ok_weaker}
use Rattle.capture_reader.specs.Readers.{shown_of}
use Rattle.etherparse.specs.LaxPackets.{lax_layers_of}
use Rattle.etherparse.specs.StrictFrames.{layers_in}
use Rattle.packet_dump.specs.PacketContents.{other_link, packet, refusal}
use Rattle.packet_dump.specs.Summaries.{PlainRefusals, PlainSummary, is_truncated, plain_of, with_cause, with_read}
use Rattle.packet_dump.specs.Summaries.{with_refused, with_stop, with_unread}
use Rattle.packet_dump.proofs.SummaryLemmas.{counted_wanted}
use Rattle.packet_dump.proofs.summary.Summary.count.Goals as goal

pub returns-then-not-self : goal.returns-then-not-self
returns-then-not-self c = rw c.if-not-self.true

pub returns-in-Layers : goal.returns-in-Layers
returns-in-Layers c =
    let shown = shown_of c.args.packet.now.captured.shown in
    let read = lax_layers_of c.args.packet.now.read in
    let cooked = c.is_cooked.result in
    let bytes = plain_of c.count_packet.new.self in
    on_ok_weaker c.count_stop.result
    (λ stopped. rw (c.in-Layers.is, ← c.requires, ← c.is_cooked.ensures) (stopped
    ∙ ap (λ (p : PlainSummary). with_stop (is_truncated shown) read.net.inside.stop p)
    ((λ i. record bytes { layers = c.count.ensures i })
    ∙ ap (λ (p : PlainSummary). with_read cooked (layers_in read) p) c.count_packet.ensures)
    ∙ counted_wanted cooked shown (packet read) (plain_of c.args.self.now) c.if-not-self.false)) c.count_stop.ensures

pub returns-in-Refused : goal.returns-in-Refused
returns-in-Refused c =
    let shown = shown_of c.args.packet.now.captured.shown in
    let error = c.in-Refused.error in
    let caused = plain_of c.count_cause.new.self in
    on_ok_weaker c.count-in-Refused.result
    (λ refused. rw c.in-Refused.is (ap (λ (r : PlainRefusals). record caused { refused = r }) refused
    ∙ ap (λ (p : PlainSummary). with_refused error p)
    (c.count_cause.ensures ∙ ap (λ (p : PlainSummary). with_cause (is_truncated shown) p) c.count_packet.ensures)
    ∙ counted_wanted false shown (refusal error) (plain_of c.args.self.now) c.if-not-self.false))
    c.count-in-Refused.ensures

pub returns-in-Unsupported : goal.returns-in-Unsupported
returns-in-Unsupported c =
    let shown = shown_of c.args.packet.now.captured.shown in
    let bytes = plain_of c.count_packet.new.self in
    on_ok_weaker c.count_key.result
    (λ unread. rw c.in-Unsupported.is (ap (λ (u : List (ℕ × ℕ)). record bytes { unread = u }) unread
    ∙ ap (λ (p : PlainSummary). with_unread shown.link p) c.count_packet.ensures
    ∙ counted_wanted false shown (other_link shown.link) (plain_of c.args.self.now) c.if-not-self.false))
    c.count_key.ensures
