-- Lines of streams that the pool evicts or discards.
use Rattle.std.specs.Prelude.{◌≡◌, ℕ, ◌&&◌, nat_eq, if◌then◌else◌, Bool, false, IsFalse, List, [], ◌∷◌, ◌++◌}
use Rattle.std.specs.Prelude.{Some, codes, is_some}
use Rattle.std.specs.List.{list_any}
use Rattle.std.specs.Fmt.{decimal}
use Rattle.etherparse.specs.BoundedSteps.{BoundedAnswer, Gone, fragment_rejected, is_for_bytes, nothing_complete}
use Rattle.etherparse.specs.BoundedSteps.{payload_complete}
use Rattle.etherparse.specs.Types.EvictedStream.{EvictedStream}
use Rattle.etherparse.specs.Types.EvictionCause.{EvictionCause}
use Rattle.etherparse.specs.Types.EvictionCause.TheVariants.{Bytes, Expired, Overlap, Streams}
use Rattle.etherparse.specs.Types.IpFragId.{IpFragId}
use Rattle.etherparse.specs.Types.IpFragVersionSpecId.{IpFragVersionSpecId}
use Rattle.etherparse.specs.Types.IpFragVersionSpecId.TheVariants.{Ipv4, Ipv6}
use Rattle.packet_text.specs.Addresses.{ipv4_text, ipv6_text}
use Rattle.packet_text.specs.LayerTexts.{protocol_text}
use Rattle.packet_dump.specs.DecodedPackets.{DecodedPacket}
use Rattle.packet_dump.specs.PacketCalls.{reports_evictions}
use Rattle.packet_dump.specs.PacketContents.{shows_line}
use Rattle.packet_dump.specs.PacketLines.{moment_text}
use Rattle.packet_dump.specs.declared.dump_options.DumpOptions.{DumpOptions}
use Rattle.packet_dump.specs.declared.dump_options.Kind.TheVariants.{Refused}

-- the number and the time of a packet
abbrev pub moment_of : DumpOptions → DecodedPacket → List ℕ
moment_of options one = moment_text options.time one.number one.first one.shown

-- VLAN identifiers, from the outermost inwards
abbrev pub tags_text : List ℕ → List ℕ
tags_text [] = []
tags_text (id ∷ others) = (codes " vlan:" ++ decimal id) ++ tags_text others

-- the addresses and the identification of a stream
abbrev pub version_text : IpFragVersionSpecId → List ℕ
version_text (Ipv4 source destination identification) =
    codes " ipv4 " ++ ipv4_text source ++ codes " > " ++ ipv4_text destination
    ++ (codes " fragment id " ++ decimal identification)
version_text (Ipv6 source destination identification) =
    codes " ipv6 " ++ ipv6_text source ++ codes " > " ++ ipv6_text destination
    ++ (codes " fragment id " ++ decimal identification)

-- the identifier of a stream: its VLAN identifiers, its addresses, its identification, and the protocol of its payload
abbrev pub name_text : IpFragId ℕ → List ℕ
name_text name =
    tags_text name.vlan_ids.items ++ version_text name.ip ++ protocol_text name.payload_ip_number.0

-- the cause for which a stream is evicted or discarded
abbrev pub cause_text : EvictionCause → List ℕ
cause_text Expired = codes " expired\n"
cause_text Overlap = codes " discarded: overlap\n"
cause_text Streams = codes " evicted: too many streams\n"
cause_text Bytes = codes " evicted: too many bytes\n"

-- True if evictions are shown: they are reported, and lines of rejected fragments are shown. A filter does not matter,
-- since the bytes of a stream that is not reassembled cannot be matched.
abbrev pub shows_evictions : DumpOptions → Bool
shows_evictions options =
    reports_evictions options && shows_line options (Some Refused)

-- the line of a stream that is evicted or discarded, if it is shown
abbrev pub eviction_line : DumpOptions → List ℕ → IpFragId ℕ → EvictionCause → List ℕ
eviction_line options moment name cause =
    if shows_evictions options then moment ++ name_text name ++ cause_text cause else []

-- the lines of these streams
abbrev pub gone_lines : DumpOptions → List ℕ → List (Gone ℕ) → List ℕ
gone_lines options moment [] = []
gone_lines options moment (one ∷ others) =
    eviction_line options moment one.row.id one.cause ++ gone_lines options moment others

-- the lines of these streams, as the pool reports them
abbrev pub evicted_lines : DumpOptions → List ℕ → List (EvictedStream ℕ) → List ℕ
evicted_lines options moment [] = []
evicted_lines options moment (one ∷ others) =
    eviction_line options moment one.id one.cause ++ evicted_lines options moment others

-- Without `--fragment-bytes` none of these streams is evicted for its memory.
abbrev pub KeepsMemoryOf : DumpOptions → List (EvictedStream ℕ) → Type 0
KeepsMemoryOf options evicted =
    is_some options.fragment_bytes ≡ false → IsFalse (list_any (λ one. is_for_bytes one.cause) evicted)

-- the line of the stream of a fragment with this answer, if it is open and no stream may stay
abbrev pub cleared_line : DumpOptions → List ℕ → IpFragId ℕ → BoundedAnswer → List ℕ
cleared_line options moment name (fragment_rejected error) = []
cleared_line options moment name (payload_complete payload) = []
cleared_line options moment name nothing_complete = eviction_line options moment name Streams

abbrev pub cleared_text : DumpOptions → List ℕ → IpFragId ℕ → BoundedAnswer → List ℕ
cleared_text options moment name answer =
    if nat_eq options.streams 0 then cleared_line options moment name answer else []
