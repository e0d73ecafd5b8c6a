-- Lemmas about the laws of the meaning.
use Rattle.std.proofs.Common.{◌≡◌, ℕ, ◌+◌, ◌%◌, ◌^◌, ◌<◌, Bool, true, false, not, ◌&&◌, ◌==◌, List, length, Option, Some, None, refl, ap, sym, ◌∙◌, arith}
use Rattle.std.specs.Prelude.{bit_and, if◌then◌else◌, nat_le, nat_lt, option_and_then}
use Rattle.std.specs.Option.{option_map_or}
use Rattle.std.proofs.lemmas.Bool.Decides.{nat_tests}
use Rattle.std.proofs.lemmas.Grind.{and_numeral}
use Rattle.ep_base.specs.Bytes.{AreBytes, word_at}
use Rattle.ep_base.specs.IpNumbers.{tcp_number}
use Rattle.filter_tokens.specs.declared.primitive.PortProtocol.TheVariants as protocol
use Rattle.filter_tokens.specs.declared.primitive.Relation.TheVariants.{Equal}
use Rattle.filter_tokens.specs.declared.primitive.Side.TheVariants.{Source}
use Rattle.filter_tokens.specs.declared.primitive.Width.TheVariants.{Two}
use Rattle.filter_tokens.specs.Values.{most_number}
use Rattle.packet_filter.specs.Laws.{HasTransportBytes, IsLessOrGreater, IsPortOfBytes}
use Rattle.packet_filter.specs.Meaning.{has_port, has_port_at, has_relation, number_at}
use Rattle.packet_filter.specs.Packets.{Packet, Transport, bytes_of_number}

-- A number is at most another one if it is not at least the next one.
at_most : (value number : ℕ) → nat_le value number ≡ not (nat_le (number + 1) value)
at_most value number = grind (arith, nat_tests)

pub less_or_greater : (packet : Packet) (number : ℕ) → IsLessOrGreater packet number
less_or_greater packet number = at_most (bit_and packet.len most_number) number

-- A number is in a range of one number if it equals it.
in_range_of_one : (value number : ℕ) → (nat_le number value && nat_le value number) ≡ (value == number)
in_range_of_one value number = grind (arith, nat_tests)

-- All bits of a number of 32 bits are kept by a mask of ones.
keeps_all : (value : ℕ) → value < 2 ^ 32 → bit_and value most_number ≡ value
keeps_all value small =
    let rest : bit_and value most_number ≡ value % 0x1_0000_0000 = and_numeral value 0xffff_fffe refl in
    let same : value % 0x1_0000_0000 ≡ value = omega (arith, small) in
    rest ∙ same

word_is_small : (bytes : List ℕ) (at : ℕ) → AreBytes bytes → word_at bytes at < 2 ^ 32
word_is_small bytes at are = omega (arith, are at, are (at + 1))

one_port : (bytes : List ℕ) (port : ℕ) → AreBytes bytes
    → (nat_le port (word_at bytes 0) && nat_le (word_at bytes 0) port)
    ≡ (bit_and (word_at bytes 0) most_number == port)
one_port bytes port are =
    in_range_of_one (word_at bytes 0) port
    ∙ ap (λ (value : ℕ). value == port) (sym (keeps_all (word_at bytes 0) (word_is_small bytes 0 are)))

-- The port at the start of a transport header, if it is there, and the number in its first two bytes.
port_or_none : (is_present : Bool) (bytes : List ℕ) (port : ℕ) → AreBytes bytes
    → option_map_or (λ value. nat_le port value && nat_le value port)
    (if is_present then Some (word_at bytes 0) else None) false
    ≡ option_map_or (λ value. has_relation Equal (bit_and value most_number) port)
    (if is_present then Some (word_at bytes 0) else None) false
port_or_none true bytes port are = one_port bytes port are
port_or_none false bytes port are = refl

port_of_tcp : (is_tcp : Bool) (bytes : List ℕ) (port : ℕ) → AreBytes bytes
    → (is_tcp && has_port_at 0 port port bytes)
    ≡ option_map_or (λ value. has_relation Equal (bit_and value most_number) port)
    (option_and_then (number_at Two 0) (if is_tcp then Some bytes else None)) false
port_of_tcp true bytes port are = port_or_none (nat_lt (0 + 1) (length bytes)) bytes port are
port_of_tcp false bytes port are = refl

port_of_transport : (transport : Option Transport) (port : ℕ) → HasTransportBytes transport
    → option_map_or (has_port protocol.Tcp Source port port) transport false
    ≡ option_map_or (λ value. has_relation Equal (bit_and value most_number) port)
    (option_and_then (number_at Two 0) (bytes_of_number tcp_number transport)) false
port_of_transport None port are = refl
port_of_transport (Some transport) port are =
    port_of_tcp (transport.number == tcp_number) transport.bytes port are

pub ports_are_bytes : (packet : Packet) (port : ℕ) → IsPortOfBytes packet port
ports_are_bytes packet port = λ are. port_of_transport packet.transport port are
