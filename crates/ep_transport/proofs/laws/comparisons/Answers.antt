use Rattle.std.proofs.Common.{◌≡◌, ◌&&◌, Option, refl, ap}
use Rattle.std.specs.Bool.{Decides}
use Rattle.std.specs.Option.{option_eq}
use Rattle.std.specs.Prelude.{nat_eq}
use Rattle.std.specs.Cmp.{booleans_Decides}
use Rattle.std.proofs.lemmas.Bool.{false≢true}
use Rattle.std.proofs.lemmas.Bool.Decides.{Decides-and, Decides-eqb, Decides-like}
use Rattle.std.proofs.lemmas.Slice.Eq.{slice_eq-Decides}
use Rattle.ep_base.proofs.ComparisonLemmas.{five, five_same, made_same, same_option, stored_same, two, two_same}
use Rattle.ep_transport.specs.TcpOptionBytes.{Block}
use Rattle.ep_transport.specs.declared.udp_header.UdpHeader.{UdpHeader}
use Rattle.ep_transport.specs.declared.tcp_header.TcpHeader.{TcpHeader}
use Rattle.ep_transport.specs.declared.tcp_option_element.TcpOptionElement.TheVariants.{Noop, MaximumSegmentSize, WindowScale, SelectiveAcknowledgementPermitted, SelectiveAcknowledgement, Timestamp}
use Rattle.ep_transport.specs.declared.transport_header.TransportHeader.TheVariants as header
use Rattle.ep_transport.specs.declared.transport_checksum_error.TransportChecksumError.TheVariants as error
use Rattle.ep_transport.proofs.laws.comparisons.Goals as goal

pub returns-clause-udp : goal.returns-clause-udp
returns-clause-udp c a b =
    made_same (λ (h : UdpHeader). two h.source_port (two h.destination_port (two h.length h.checksum)))
    (λ p. record { source_port = p.0; destination_port = p.1.0; length = p.1.1.0; checksum = p.1.1.1 }) (λ h. refl) a b
    (two_same (Decides-eqb a.source_port b.source_port)
    (two_same (Decides-eqb a.destination_port b.destination_port)
    (two_same (Decides-eqb a.length b.length) (Decides-eqb a.checksum b.checksum))))

-- Options are compared by their stored array and length.
pub returns-clause-options : goal.returns-clause-options
returns-clause-options c a b = stored_same 40 (λ n. n) a b (λ same. same)

pub returns-clause-tcp : goal.returns-clause-tcp
returns-clause-tcp c a b =
    made_same
    (λ (h : TcpHeader). five h.source_port h.destination_port h.sequence_number h.acknowledgment_number
    (five h.ns h.fin h.syn h.rst (five h.psh h.ack h.urg h.ece
    (five h.cwr h.window_size h.checksum h.urgent_pointer h.options))))
    (λ p. record {
      source_port = p.0;
      destination_port = p.1;
      sequence_number = p.2;
      acknowledgment_number = p.3;
      ns = p.4.0;
      fin = p.4.1;
      syn = p.4.2;
      rst = p.4.3;
      psh = p.4.4.0;
      ack = p.4.4.1;
      urg = p.4.4.2;
      ece = p.4.4.3;
      cwr = p.4.4.4.0;
      window_size = p.4.4.4.1;
      checksum = p.4.4.4.2;
      urgent_pointer = p.4.4.4.3;
      options = p.4.4.4.4;
    }) (λ h. refl) a b
    (five_same (Decides-eqb a.source_port b.source_port) (Decides-eqb a.destination_port b.destination_port)
    (Decides-eqb a.sequence_number b.sequence_number) (Decides-eqb a.acknowledgment_number b.acknowledgment_number)
    (five_same (booleans_Decides a.ns b.ns) (booleans_Decides a.fin b.fin) (booleans_Decides a.syn b.syn)
    (booleans_Decides a.rst b.rst)
    (five_same (booleans_Decides a.psh b.psh) (booleans_Decides a.ack b.ack) (booleans_Decides a.urg b.urg)
    (booleans_Decides a.ece b.ece)
    (five_same (booleans_Decides a.cwr b.cwr) (Decides-eqb a.window_size b.window_size)
    (Decides-eqb a.checksum b.checksum) (Decides-eqb a.urgent_pointer b.urgent_pointer)
    (returns-clause-options c a.options b.options)))))

same_blocks : (a b : Block) → Decides (nat_eq a.0 b.0 && nat_eq a.1 b.1) (a ≡ b)
same_blocks a b = two_same (Decides-eqb a.0 b.0) (Decides-eqb a.1 b.1)

same_places : (a b : Option Block)
    → Decides (option_eq (λ (x y : Block). nat_eq x.0 y.0 && nat_eq x.1 y.1) a b) (a ≡ b)
same_places a b = same_option _ a b (λ x y is_x is_y. same_blocks x y)

pub returns-clause-elements : goal.returns-clause-elements
returns-clause-elements c Noop Noop = (λ equal. refl, λ same. refl)
returns-clause-elements c (MaximumSegmentSize size) (MaximumSegmentSize size') =
    Decides-like _ (ap MaximumSegmentSize) (λ same. cc same) (Decides-eqb size size')
returns-clause-elements c (WindowScale shift) (WindowScale shift') =
    Decides-like _ (ap WindowScale) (λ same. cc same) (Decides-eqb shift shift')
returns-clause-elements c SelectiveAcknowledgementPermitted SelectiveAcknowledgementPermitted =
    (λ equal. refl, λ same. refl)
returns-clause-elements c (SelectiveAcknowledgement first others) (SelectiveAcknowledgement first' others') =
    Decides-like _ (λ both i. SelectiveAcknowledgement (both.0 i) (both.1 i)) (λ same. (cc same, cc same))
    (Decides-and _ _ (same_blocks first first') (slice_eq-Decides same_places others others' _ refl))
returns-clause-elements c (Timestamp time echo) (Timestamp time' echo') =
    Decides-like _ (λ both i. Timestamp (both.0 i) (both.1 i)) (λ same. (cc same, cc same))
    (Decides-and _ _ (Decides-eqb time time') (Decides-eqb echo echo'))
returns-clause-elements c a b = (λ equal. absurd (false≢true equal), λ same. absurd (cc same))

pub returns-clause-transport : goal.returns-clause-transport
returns-clause-transport c (header.Udp a) (header.Udp b) =
    Decides-like _ (ap header.Udp) (λ same. cc same) (returns-clause-udp c a b)
returns-clause-transport c (header.Tcp a) (header.Tcp b) =
    Decides-like _ (ap header.Tcp) (λ same. cc same) (returns-clause-tcp c a b)
returns-clause-transport c (header.Icmpv4 a) (header.Icmpv4 b) =
    Decides-like _ (ap header.Icmpv4) (λ same. cc same) (c.comparisons.ensures.icmpv4 a b)
returns-clause-transport c (header.Icmpv6 a) (header.Icmpv6 b) =
    Decides-like _ (ap header.Icmpv6) (λ same. cc same) (c.comparisons.ensures.icmpv6 a b)
returns-clause-transport c a b = (λ equal. absurd (false≢true equal), λ same. absurd (cc same))

pub returns-clause-checksum_errors : goal.returns-clause-checksum_errors
returns-clause-checksum_errors c (error.PayloadLen a) (error.PayloadLen b) =
    Decides-like _ (ap error.PayloadLen) (λ same. cc same) (c.equalities.ensures.value_errors a b)
returns-clause-checksum_errors c error.Icmpv6InIpv4 error.Icmpv6InIpv4 = (λ equal. refl, λ same. refl)
returns-clause-checksum_errors c a b = (λ equal. absurd (false≢true equal), λ same. absurd (cc same))
