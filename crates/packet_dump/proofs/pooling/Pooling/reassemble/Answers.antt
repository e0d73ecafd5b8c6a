use Rattle.std.proofs.Common.{[], refl, sym, ap, append_assoc, ◌++◌, ◌∙◌, List, ℕ}
use Rattle.std.proofs.lemmas.List.{append-nil}
use Rattle.std.proofs.lemmas.Result.{on_ok_weaker}
use Rattle.packet_dump.specs.Decoding.{packet_of}
use Rattle.packet_dump.specs.PoolLines.{expired_text, swept_at}
use Rattle.packet_dump.proofs.pooling.Pooling.reassemble.Goals as goal

pub returns-then-not-packet : goal.returns-then-not-packet
returns-then-not-packet c = λ before holds.
    ([], before, rw c.if-not-packet.true (refl, refl), holds, sym (append-nil c.args.output.now.items))

pub returns : goal.returns
returns c =
    on_ok_weaker c.process_frame.result
    (λ process before holds.
    let options = c.args.options.now in
    let one = packet_of c.args.packet.now in
    let expired = c.in_ok-expire.ensures before holds in
    let passed = process (swept_at options before one) expired.0 in
    let text = expired_text options before one in (
      text ++ passed.0,
      passed.1,
      rw c.if-not-packet.false (passed.0, passed.2, refl),
      passed.3,
      passed.4 ∙ ap (λ (t : List ℕ). t ++ passed.0) expired.1
          ∙ append_assoc c.args.output.now.items text passed.0,
    )) c.process_frame.ensures
