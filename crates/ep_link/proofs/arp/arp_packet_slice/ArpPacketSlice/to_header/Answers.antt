use Rattle.std.proofs.Common.{◌≡◌, List, Bool, None, Result, Ok, Err, length, refl, sym, ap, ◌∙◌}
use Rattle.std.specs.Prelude.{IfErr, IsOk}
use Rattle.std.proofs.lemmas.Option.{none-some}
use Rattle.ep_base.specs.Tables.{Refuses, first_row}
use Rattle.ep_link.specs.Arp.{arp_address_rows}
use Rattle.ep_link.proofs.ArpLemmas.{addresses, addresses_taken}
use Rattle.ep_link.proofs.arp.arp_packet_slice.ArpPacketSlice.to_header.Goals as goal

-- A call that fails only with errors of a table succeeds if no row of the table holds.
is_taken : {A E : Type 0} (rows : List (Bool × E)) (answer : Result A E) → IfErr answer (Refuses rows)
    → first_row rows ≡ None → IsOk answer
is_taken rows (Ok value) refused none = refl
is_taken rows (Err error) refused none = absurd (none-some error (sym none ∙ refused))

pub unwrap-requires : goal.unwrap-requires
unwrap-requires c =
    let slice = c.args.self.now.bytes in
    let each = addresses slice.slice.now slice.whole in
    let sender_hw = ap length c.sender_hw_addr.ensures.value ∙ each.sender_hw in
    let target_hw = ap length c.target_hw_addr.ensures.value ∙ each.target_hw in
    let sender_protocol = ap length c.sender_protocol_addr.ensures.value ∙ each.sender_protocol in
    let target_protocol = ap length c.target_protocol_addr.ensures.value ∙ each.target_protocol in
    let a = c.sender_hw_addr.result.now in
    let b = c.sender_protocol_addr.result.now in
    let x = c.target_hw_addr.result.now in
    let y = c.target_protocol_addr.result.now in
    is_taken (arp_address_rows a b x y) c.new.result c.new.ensures.err
    (addresses_taken a b x y (target_hw ∙ sym sender_hw) c.sender_hw_addr.ensures.bound
    (target_protocol ∙ sym sender_protocol) c.sender_protocol_addr.ensures.bound)

pub returns : goal.returns
returns c =
    let made = rw c.unwrap.ensures at c.new.ensures.ok in
    made.4
    ∙ (λ i. record {
      hw_addr_type = c.hw_addr_type.ensures i;
      proto_addr_type = c.proto_addr_type.ensures i;
      operation = c.operation.ensures i;
      sender_hw_addr = c.sender_hw_addr.ensures.value i;
      sender_protocol_addr = c.sender_protocol_addr.ensures.value i;
      target_hw_addr = c.target_hw_addr.ensures.value i;
      target_protocol_addr = c.target_protocol_addr.ensures.value i;
    })
