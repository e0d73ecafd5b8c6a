-- The headers of a request and of its answer, and the bytes appended for an answer.
use Rattle.std.specs.Prelude.{◌≡◌, ℕ, List, [], ◌∷◌, Option, Some, None, Result, Vec}
use Rattle.std.specs.Option.{option_and_then}
use Rattle.etherparse.specs.AppendedFrames.{AppendsFrame}
use Rattle.etherparse.specs.BuiltFrames.{FrameHeaders, transport_frame_headers}
use Rattle.etherparse.specs.Layers.{Layers, NetLayer, ipv4}
use Rattle.etherparse.specs.LinkSlices.{LinkLayer, ethernet2}
use Rattle.etherparse.specs.Steps.{ipv4_headers_between, no_type}
use Rattle.etherparse.specs.TransportHeaders.{udp_header_in}
use Rattle.etherparse.specs.TransportParts.{TransportLayer}
use Rattle.etherparse.specs.Types.BuildWriteError.{BuildWriteError}
use Rattle.etherparse.specs.Types.LinkPart.TheVariants as link
use Rattle.etherparse.specs.Types.TransportHeader.TheVariants as header
use Rattle.etherparse.specs.Types.UdpHeader.{UdpHeader}

-- the headers of a UDP datagram over IPv4 with these MAC addresses, IP addresses and ports, each as source and
-- destination
abbrev pub datagram : List ℕ × List ℕ → List ℕ × List ℕ → ℕ × ℕ → FrameHeaders
datagram hardware addresses ports = transport_frame_headers
    (link.Ethernet2 (record { source = hardware.0; destination = hardware.1; ether_type = no_type }))
    (ipv4_headers_between addresses.0 addresses.1 64)
    (header.Udp (record { source_port = ports.0; destination_port = ports.1; length = 0; checksum = 0 }))

-- the headers of the request
abbrev pub request_headers : FrameHeaders
request_headers = datagram
    (2 ∷ 0 ∷ 0 ∷ 0 ∷ 0 ∷ 1 ∷ [], 2 ∷ 0 ∷ 0 ∷ 0 ∷ 0 ∷ 2 ∷ [])
    (192 ∷ 0 ∷ 2 ∷ 1 ∷ [], 192 ∷ 0 ∷ 2 ∷ 2 ∷ [])
    (4000, 53)

-- the headers of the answer to a UDP datagram over IPv4, from its receiver to its sender; `None` for any other packet
abbrev pub answer_between : Option LinkLayer → Option NetLayer → Option UdpHeader → Option FrameHeaders
answer_between (Some (ethernet2 frame payload)) (Some (ipv4 ip extensions inside)) (Some udp) = Some (datagram
    (frame.destination, frame.source)
    (ip.destination, ip.source)
    (udp.destination_port, udp.source_port))
answer_between frame ip udp = None

abbrev pub answer_to : Layers → Option FrameHeaders
answer_to layers = answer_between
    layers.link
    layers.net
    (option_and_then (λ (layer : TransportLayer). udp_header_in layer.header) layers.transport)

-- If there are headers, the frame with them is appended. Otherwise the buffer is unchanged and there is no result.
abbrev pub AppendsIfSome : {Z : Type 0} → Option FrameHeaders → List ℕ → Vec ℕ Z → Vec ℕ Z
    → Option (Result (Unit {0}) BuildWriteError) → Type 0
AppendsIfSome (Some frame) payload old new (Some result) = AppendsFrame frame payload old new result
AppendsIfSome None payload old new None = new ≡ old
AppendsIfSome frame payload old new result = ⊥
