use Rattle.std.proofs.Common.{◌++◌, ℕ, List, length, sym, ap, ◌∙◌, arith}
use Rattle.std.specs.Prelude.{is_ok}
use Rattle.std.proofs.lemmas.List.{append-nil, append_assoc, length-append}
use Rattle.ep_base.specs.EtherTypes.{arp_type}
use Rattle.ep_link.specs.Arp.{arp_bytes}
use Rattle.ep_link.specs.ArpSlices.{arp_of}
use Rattle.ep_build.specs.BuiltFrames.{as_ether_type, link_with_type, link_part_bytes}
use Rattle.ep_build.proofs.ReadBackLemmas.{arp_read_back}
use Rattle.ep_build.proofs.SizeLemmas.{link_len}
use Rattle.ep_build.proofs.WritingLemmas.{on_err, on_ok, succeeds}
use Rattle.ep_build.proofs.writing.write_arp.Goals as goal

pub returns-then-is_err-clause-full : goal.returns-then-is_err-clause-full
returns-then-is_err-clause-full c = omega (
  arith,
  on_err c.reserve.result _ (sym c.if-is_err.ensures.value) c.reserve.ensures.full,
  c.header_len.ensures.value,
  c.packet_len.ensures.value,
)

pub append_with_type-requires : goal.append_with_type-requires
append_with_type-requires c = record {
  capacity = omega (
    arith,
    on_ok c.reserve.result _ c.if-is_err.ensures.negation c.reserve.ensures.ok,
    c.header_len.ensures.value,
    link_len c.args.link.now (as_ether_type arp_type) c.link_fits.ensures,
  );
}

pub unwrap-requires : goal.unwrap-requires
unwrap-requires c = succeeds c.write.result _ _ c.write.ensures.full (omega (
  arith,
  on_ok c.reserve.result _ c.if-is_err.ensures.negation c.reserve.ensures.ok,
  c.header_len.ensures.value,
  c.packet_len.ensures.bytes,
  link_len c.args.link.now (as_ether_type arp_type) c.link_fits.ensures,
  c.append_with_type.ensures.capacity,
  ap length c.append_with_type.ensures.items,
  length-append c.reserve.new.self.items (link_part_bytes (link_with_type c.args.link.now (as_ether_type arp_type))),
))

pub returns-clause-ok : goal.returns-clause-ok
returns-clause-ok c =
    let old = c.args.buf.now.items in
    let prefix = link_part_bytes (link_with_type c.args.link.now (as_ether_type arp_type)) in
    let packet = arp_bytes (arp_of c.args.packet.now) in
    on_ok c.write.result _ (ap is_ok c.unwrap.ensures) c.write.ensures.ok
    ∙ ap (λ (l : List ℕ). l ++ packet)
    (c.append_with_type.ensures.items ∙ ap (λ (l : List ℕ). l ++ prefix) c.reserve.ensures.items)
    ∙ append_assoc old prefix packet
    ∙ ap (λ (l : List ℕ). old ++ (prefix ++ l)) (sym (append-nil packet))

pub returns-clause-read_back : goal.returns-clause-read_back
returns-clause-read_back c =
    arp_read_back c.args.link.now (arp_of c.args.packet.now) c.link_fits.ensures c.write.ensures.fits
