use Rattle.std.proofs.Common.{refl, rules}
use Rattle.std.specs.Cmp.{booleans_Decides}
use Rattle.std.proofs.lemmas.Bool.Decides.{Decides-eqb}
use Rattle.std.proofs.lemmas.Slice.Eq.{slice_eq-Decides}
use Rattle.ep_base.proofs.ComparisonLemmas.{five, five_same, made_same, same_option, stored_same, two, two_same}
use Rattle.ep_link.specs.Arp.{Arp}
use Rattle.ep_link.specs.ArpSlices.{arp_of}
use Rattle.ep_link.specs.declared.link.linux_sll_header.LinuxSllHeader.{LinuxSllHeader}
use Rattle.ep_link.specs.declared.link_ext.macsec_header.MacsecHeader.{MacsecHeader}
use Rattle.ep_link.proofs.laws.equalities.Goals as goal

pub returns-clause-ethernet2_header : goal.returns-clause-ethernet2_header
returns-clause-ethernet2_header c = search rules

pub returns-clause-protocol_types : goal.returns-clause-protocol_types
returns-clause-protocol_types c = search rules

pub returns-clause-linux_sll_header : goal.returns-clause-linux_sll_header
returns-clause-linux_sll_header c a b =
    made_same
    (λ (h : LinuxSllHeader).
    five h.packet_type.0 h.arp_hrd_type.0 h.sender_address_valid_length h.sender_address h.protocol_type)
    (λ p. record {
      packet_type = record { 0 = p.0 };
      arp_hrd_type = record { 0 = p.1 };
      sender_address_valid_length = p.2;
      sender_address = p.3;
      protocol_type = p.4;
    }) (λ h. refl) a b
    (five_same (Decides-eqb a.packet_type.0 b.packet_type.0) (Decides-eqb a.arp_hrd_type.0 b.arp_hrd_type.0)
    (Decides-eqb a.sender_address_valid_length b.sender_address_valid_length)
    (slice_eq-Decides Decides-eqb a.sender_address b.sender_address _ refl)
    (returns-clause-protocol_types c a.protocol_type b.protocol_type))

pub returns-clause-link_header : goal.returns-clause-link_header
returns-clause-link_header c =
    search (rules, returns-clause-ethernet2_header c, returns-clause-linux_sll_header c)

pub returns-clause-macsec_ptype : goal.returns-clause-macsec_ptype
returns-clause-macsec_ptype c = search rules

pub returns-clause-macsec_header : goal.returns-clause-macsec_header
returns-clause-macsec_header c a b =
    made_same
    (λ (h : MacsecHeader). five h.ptype h.endstation_id h.scb h.an (two h.short_len (two h.packet_nr h.sci)))
    (λ p. record {
      ptype = p.0;
      endstation_id = p.1;
      scb = p.2;
      an = p.3;
      short_len = p.4.0;
      packet_nr = p.4.1.0;
      sci = p.4.1.1;
    }) (λ h. refl) a b
    (five_same (returns-clause-macsec_ptype c a.ptype b.ptype) (booleans_Decides a.endstation_id b.endstation_id)
    (booleans_Decides a.scb b.scb) (Decides-eqb a.an b.an)
    (two_same (Decides-eqb a.short_len b.short_len) (two_same (Decides-eqb a.packet_nr b.packet_nr)
    (same_option _ a.sci b.sci (λ x y is_x is_y. Decides-eqb x y)))))

pub returns-clause-vlan_header : goal.returns-clause-vlan_header
returns-clause-vlan_header c = search rules

pub returns-clause-link_ext_header : goal.returns-clause-link_ext_header
returns-clause-link_ext_header c = search (rules, returns-clause-vlan_header c, returns-clause-macsec_header c)

pub returns-clause-arp : goal.returns-clause-arp
returns-clause-arp c a b =
    let addresses = stored_same 255 (λ n. n) in
    made_same
    (λ (p : Arp). five p.hw_addr_type.0 p.proto_addr_type.0 p.operation.0 p.sender_hw_addr
    (two p.sender_protocol_addr (two p.target_hw_addr p.target_protocol_addr)))
    (λ p. record {
      hw_addr_type = record { 0 = p.0 };
      proto_addr_type = record { 0 = p.1 };
      operation = record { 0 = p.2 };
      sender_hw_addr = p.3;
      sender_protocol_addr = p.4.0;
      target_hw_addr = p.4.1.0;
      target_protocol_addr = p.4.1.1;
    }) (λ p. refl) (arp_of a) (arp_of b)
    (five_same (Decides-eqb a.hw_addr_type.0 b.hw_addr_type.0) (Decides-eqb a.proto_addr_type.0 b.proto_addr_type.0)
    (Decides-eqb a.operation.0 b.operation.0) (addresses a.sender_hw_addr b.sender_hw_addr (λ same. same))
    (two_same (addresses a.sender_protocol_addr b.sender_protocol_addr (λ same. same))
    (two_same (addresses a.target_hw_addr b.target_hw_addr (λ same. same))
    (addresses a.target_protocol_addr b.target_protocol_addr (λ same. same)))))
