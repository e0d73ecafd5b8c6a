use Rattle.std.specs.Option.{option_map}
use Rattle.std.proofs.lemmas.Result.{on_ok_weaker}
use Rattle.etherparse.specs.TransportParts.{transport_layer_of}
use Rattle.packet_dump.specs.PoolLines.{part, unread}
use Rattle.packet_dump.proofs.pool_lines.push_payload.Goals as goal

pub returns-in-Ok : goal.returns-in-Ok
returns-in-Ok c = on_ok_weaker c.push_part.result
    (λ pushed. (
      part (option_map transport_layer_of c.in-Ok.transport),
      rw c.as_slice-bytes.ensures.value at c.in-Ok.ensures.ok,
      pushed,
    )) c.push_part.ensures

pub returns-in-Err : goal.returns-in-Err
returns-in-Err c = on_ok_weaker c.push_unread.result
    (λ pushed. (unread c.in-Err.error, rw c.as_slice-bytes.ensures.value at c.in-Err.ensures.err, pushed))
    c.push_unread.ensures
