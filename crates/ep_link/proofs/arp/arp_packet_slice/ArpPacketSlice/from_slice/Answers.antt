use Rattle.std.proofs.Common.{◌≡◌, ◌++◌, drop, take, sym, arith, take-append-drop}
use Rattle.std.proofs.lemmas.Grind.{common_steps}
use Rattle.std.proofs.lemmas.List.{length-take}
use Rattle.ep_base.proofs.TableLemmas.{shown_is}
use Rattle.ep_link.specs.Arp.{arp_len_of, arp_parts}
use Rattle.ep_link.proofs.ArpLemmas.{arp_is_read}
use Rattle.ep_link.proofs.arp.arp_packet_slice.ArpPacketSlice.from_slice.Goals as goal

pub returns-clause-ok : goal.returns-clause-ok
returns-clause-ok c =
    let bytes = c.args.slice.now in
    let n = arp_len_of bytes in
    let parts : bytes ≡ take n bytes ++ drop n bytes = sym (take-append-drop n bytes) in
    let is = shown_is arp_len_of arp_parts arp_is_read bytes (take n bytes) (drop n bytes)
    (λ i. omega (arith, c.type_inv.slice i)) (grind (arith, common_steps)) parts (omega (arith, length-take n bytes)) in
    (drop n bytes, parts, is.0)

pub returns-clause-only : goal.returns-clause-only
returns-clause-only c read is =
    let same = (arp_is_read.is_read c.args.slice.now read is).1 in
    λ i. ((sym same i).0, read.1)

pub returns-then-slice-packet_len-clause-err : goal.returns-then-slice-packet_len-clause-err
returns-then-slice-packet_len-clause-err c = grind (arith, common_steps)
