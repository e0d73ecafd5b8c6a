use Rattle.std.proofs.Common.{◌≡◌, [], ◌++◌, drop, take, take-append-drop, sym, arith}
use Rattle.std.proofs.lemmas.Grind.{common_steps}
use Rattle.std.proofs.lemmas.List.{append-nil}
use Rattle.ep_base.proofs.TableLemmas.{shown_is}
use Rattle.ep_transport.specs.Udp.{udp_parts}
use Rattle.ep_transport.proofs.UdpLemmas.{udp_is_read, udp_len_of}
use Rattle.ep_transport.proofs.udp_slice.UdpSlice.from_slice.Goals as goal

pub returns-then-length-eq0-clause-ok : goal.returns-then-length-eq0-clause-ok
returns-then-length-eq0-clause-ok c =
    let bytes = c.args.slice.now in
    let parts : bytes ≡ bytes ++ [] = sym (append-nil bytes) in (
      [],
      parts,
      (shown_is udp_len_of udp_parts udp_is_read bytes bytes [] (λ i. omega (arith, c.type_inv.slice i))
          (grind (arith, common_steps)) parts (grind (arith, common_steps))).0,
    )

pub returns : goal.returns
returns c =
    let bytes = c.args.slice.now in
    let n = c.from_be_bytes-length.result in
    let parts : bytes ≡ take n bytes ++ drop n bytes = sym (take-append-drop n bytes) in
    let is =
    shown_is udp_len_of udp_parts udp_is_read bytes (take n bytes) (drop n bytes)
    (λ i. omega (arith, c.type_inv.slice i)) (grind (arith, common_steps)) parts (grind (arith, common_steps)) in
    record {
      ok = (drop n bytes, parts, is.0);
      only = λ datagram other. let same = is.1 datagram other in
          λ i. record { header = (sym same i).header; payload = (sym same i).payload; left = datagram.left };
      err = tt;
    }
