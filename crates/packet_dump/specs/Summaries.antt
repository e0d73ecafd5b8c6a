-- Counts of a summary: the packets that were read, each by its content.
use Rattle.std.specs.Prelude.{◌≡◌, ℕ, ◌≤◌, ◌+◌, ◌-◌, ◌^◌, min, nat_eq, nat_lt, if◌then◌else◌, Bool, true, false, List, [], ◌∷◌}
use Rattle.std.specs.Prelude.{Option, Some, None, length, map}
use Rattle.std.specs.Borrow.{Bor}
use Rattle.std.specs.List.{count_by}
use Rattle.std.specs.Str.{bytes_eq}
use Rattle.capture_reader.specs.Captures.{PlainShown}
use Rattle.etherparse.specs.BoundedSteps.{is_open}
use Rattle.etherparse.specs.Layers.{Layers, NetLayer, arp, carries_fragment, ipv4, ipv6}
use Rattle.etherparse.specs.LinkExtensions.{LinkExtension, macsec, vlan}
use Rattle.etherparse.specs.LinkSlices.{LinkLayer, ether_payload, ethernet2, linux_sll, linux_sll_payload}
use Rattle.etherparse.specs.StrictFrames.{layers_in}
use Rattle.etherparse.specs.TransportParts.{TransportLayer}
use Rattle.etherparse.specs.Types.DefragStatistics.{DefragStatistics}
use Rattle.etherparse.specs.Types.Layer.{Layer}
use Rattle.etherparse.specs.Types.SliceError.{SliceError}
use Rattle.etherparse.specs.Types.TransportHeader.{TransportHeader}
use Rattle.etherparse.specs.Types.TransportHeader.TheVariants as header
use Rattle.packet_dump.specs.DecodedPackets.{DecodedPacket}
use Rattle.packet_dump.specs.Dumps.{AreAllLines, IsRun}
use Rattle.link_types.specs.Openings.{is_cooked, opening_of}
use Rattle.packet_dump.specs.PacketCalls.{PoolHistory, reports_evictions}
use Rattle.packet_dump.specs.PacketContents.{Content, other_link, packet, refusal}
use Rattle.packet_dump.specs.ErrorNames.{error_name}
use Rattle.packet_dump.specs.declared.dump_options.DumpOptions.{DumpOptions}
use Rattle.packet_dump.specs.declared.ending.Ending.{Ending}
use Rattle.link_types.specs.declared.openings.Opening.{Opening}
use Rattle.packet_dump.specs.declared.summary.Evictions.{Evictions}
use Rattle.packet_dump.specs.declared.summary.Fragments.{Fragments}
use Rattle.packet_dump.specs.declared.summary.LayerCounts.{LayerCounts}
use Rattle.packet_dump.specs.declared.summary.Refusals.{Refusals}
use Rattle.packet_dump.specs.declared.summary.Summary.{Summary}

-- ---- summary values

-- the number of refused or of stopped packets, and the count of each error by its name
pub record PlainRefusals : Type 0 where
  pub all : ℕ
  pub errors : List (List ℕ × ℕ)

pub record PlainSummary : Type 0 where
  pub wanted : Bool
  pub by_cause : Bool
  pub packets : ℕ
  pub kept : ℕ
  pub original : ℕ
  pub layers : LayerCounts
  pub refused : PlainRefusals
  pub stopped : PlainRefusals
  pub cut : ℕ
  pub malformed : ℕ
  pub unread : List (ℕ × ℕ)
  pub fragments : Option Fragments

-- a name with its count
abbrev pub plain_count : Bor (List ℕ) × ℕ → List ℕ × ℕ
plain_count entry = (entry.0.now, entry.1)

abbrev pub plain_refusals : Refusals → PlainRefusals
plain_refusals refusals = record { all = refusals.all; errors = map plain_count refusals.errors.items }

abbrev pub plain_of : Summary → PlainSummary
plain_of summary = record {
  wanted = summary.wanted;
  by_cause = summary.by_cause;
  packets = summary.packets;
  kept = summary.kept;
  original = summary.original;
  layers = summary.layers;
  refused = plain_refusals summary.refused;
  stopped = plain_refusals summary.stopped;
  cut = summary.cut;
  malformed = summary.malformed;
  unread = summary.unread.items;
  fragments = summary.fragments;
}

abbrev pub no_refusals : PlainRefusals
no_refusals = record { all = 0; errors = [] }

abbrev pub no_layers : LayerCounts
no_layers = record {
  ethernet = 0;
  linux_sll = 0;
  vlan = 0;
  macsec = 0;
  ipv4 = 0;
  ipv6 = 0;
  arp = 0;
  fragment = 0;
  udp = 0;
  tcp = 0;
  icmpv4 = 0;
  icmpv6 = 0;
}

-- the summary before any packet
abbrev pub new_summary : Bool → Bool → PlainSummary
new_summary wanted by_cause = record {
  wanted = wanted;
  by_cause = by_cause;
  packets = 0;
  kept = 0;
  original = 0;
  layers = no_layers;
  refused = no_refusals;
  stopped = no_refusals;
  cut = 0;
  malformed = 0;
  unread = [];
  fragments = None;
}

-- ---- counts

-- the sum, saturating at the maximum of 64 bits
abbrev pub more : ℕ → ℕ → ℕ
more count by = min (count + by) (2 ^ 64 - 1)

-- counts by key with one more for this key, which is added at the end if it is new
abbrev pub with_one : {K : Type 0} → (K → K → Bool) → K → List (K × ℕ) → List (K × ℕ)
with_one same key [] = (key, 1) ∷ []
with_one same key (entry ∷ others) =
    if same entry.0 key then (entry.0, more entry.1 1) ∷ others else entry ∷ with_one same key others

-- the counts with one more for this error
abbrev pub with_error : SliceError → PlainRefusals → PlainRefusals
with_error error before =
    record { all = more before.all 1; errors = with_one bytes_eq (error_name error) before.errors }

-- ---- layers

-- the counts with a Linux cooked capture header, if the program parsed one itself
abbrev pub with_cooked : Bool → LayerCounts → LayerCounts
with_cooked true before = record before { linux_sll = more before.linux_sll 1 }
with_cooked false before = before

abbrev pub with_link : Option LinkLayer → LayerCounts → LayerCounts
with_link (Some (ethernet2 header payload)) before = record before { ethernet = more before.ethernet 1 }
with_link (Some (linux_sll header payload)) before = record before { linux_sll = more before.linux_sll 1 }
with_link (Some (ether_payload type source payload)) before = before
with_link (Some (linux_sll_payload protocol payload)) before = before
with_link None before = before

abbrev pub with_extension : LinkExtension → LayerCounts → LayerCounts
with_extension (vlan tag payload) before = record before { vlan = more before.vlan 1 }
with_extension (macsec tag payload) before = record before { macsec = more before.macsec 1 }

-- the counts with each link extension
abbrev pub with_extensions : List LinkExtension → LayerCounts → LayerCounts
with_extensions [] before = before
with_extensions (extension ∷ others) before = with_extensions others (with_extension extension before)

abbrev pub with_net : Option NetLayer → LayerCounts → LayerCounts
with_net (Some (ipv4 ip extensions payload)) before = record before { ipv4 = more before.ipv4 1 }
with_net (Some (ipv6 ip extensions payload)) before = record before { ipv6 = more before.ipv6 1 }
with_net (Some (arp found)) before = record before { arp = more before.arp 1 }
with_net None before = before

-- the counts with a fragment, if the IP payload is one
abbrev pub with_fragment : Bool → LayerCounts → LayerCounts
with_fragment true before = record before { fragment = more before.fragment 1 }
with_fragment false before = before

abbrev pub with_header : TransportHeader → LayerCounts → LayerCounts
with_header (header.Udp udp) before = record before { udp = more before.udp 1 }
with_header (header.Tcp tcp) before = record before { tcp = more before.tcp 1 }
with_header (header.Icmpv4 icmp) before = record before { icmpv4 = more before.icmpv4 1 }
with_header (header.Icmpv6 icmp) before = record before { icmpv6 = more before.icmpv6 1 }

abbrev pub with_transport : Option TransportLayer → LayerCounts → LayerCounts
with_transport (Some layer) before = with_header layer.header before
with_transport None before = before

-- the counts with all layers of a packet, and the cooked header before them, if the program parsed one
abbrev pub with_layers : Bool → Layers → LayerCounts → LayerCounts
with_layers cooked layers before =
    with_transport layers.transport (with_fragment (carries_fragment layers) (with_net layers.net
    (with_extensions layers.link_exts (with_link layers.link (with_cooked cooked before)))))

-- ---- a packet

-- the summary with the captured and the original length of a packet
abbrev pub with_packet : PlainShown → PlainSummary → PlainSummary
with_packet shown before = record before {
  packets = more before.packets 1;
  kept = more before.kept (length shown.bytes);
  original = more before.original shown.original_len;
}

-- True if the capture truncated a packet.
abbrev pub is_truncated : PlainShown → Bool
is_truncated shown = nat_lt (length shown.bytes) shown.original_len

-- the summary with a refused or stopped packet: truncated by the capture, or malformed
abbrev pub with_cause : Bool → PlainSummary → PlainSummary
with_cause true before = record before { cut = more before.cut 1 }
with_cause false before = record before { malformed = more before.malformed 1 }

-- the summary with the layers of a packet
abbrev pub with_read : Bool → Layers → PlainSummary → PlainSummary
with_read cooked layers before = record before { layers = with_layers cooked layers before.layers }

-- the summary with the error at which the layers of a packet end
abbrev pub with_stopped : SliceError → PlainSummary → PlainSummary
with_stopped error before = record before { stopped = with_error error before.stopped }

abbrev pub with_stop : Bool → Option (SliceError × Layer) → PlainSummary → PlainSummary
with_stop cut (Some stop) before = with_stopped stop.0 (with_cause cut before)
with_stop cut None before = before

-- the summary with the error of a rejected packet
abbrev pub with_refused : SliceError → PlainSummary → PlainSummary
with_refused error before = record before { refused = with_error error before.refused }

-- the summary with a link type that is not supported
abbrev pub with_unread : ℕ → PlainSummary → PlainSummary
with_unread link before = record before { unread = with_one nat_eq link before.unread }

-- the summary with the content of a packet
abbrev pub with_content : Bool → PlainShown → Content → PlainSummary → PlainSummary
with_content cooked shown (packet read) before =
    with_stop (is_truncated shown) read.net.inside.stop (with_read cooked (layers_in read) before)
with_content cooked shown (refusal error) before = with_refused error (with_cause (is_truncated shown) before)
with_content cooked shown (other_link number) before = with_unread number before

-- The summary with a packet of this content, and the cooked header before its layers, if the program parsed one. It is
-- unchanged if no summary is wanted.
abbrev pub counted : Bool → PlainShown → Content → PlainSummary → PlainSummary
counted cooked shown content before =
    if before.wanted then with_content cooked shown content (with_packet shown before) else before

-- True if the program parses a cooked header of the opening.
abbrev pub has_cooked : Option Opening → Bool
has_cooked (Some opening) = is_cooked opening
has_cooked None = false

-- ---- several packets

-- the summary with a packet
abbrev pub counted_one : DecodedPacket → PlainSummary → PlainSummary
counted_one one before = counted (has_cooked (opening_of one.shown.link one.shown.bytes)) one.shown one.content before

-- the summary after these packets
abbrev pub counted_all : List DecodedPacket → PlainSummary → PlainSummary
counted_all [] before = before
counted_all (one ∷ others) before = counted_all others (counted_one one before)

-- ---- fragments

-- the number of fragments that the pool rejected
abbrev pub rejected_in : DefragStatistics → ℕ
rejected_in counters =
    more (more (more (more counters.rejected_unaligned counters.rejected_too_big) counters.rejected_conflicting_end)
    counters.rejected_discarded) counters.rejected_over_budget

-- The number of streams that were evicted since there were too many. Without `--streams 0` no stream is removed in
-- another way.
abbrev pub evicted_for_streams_in : DefragStatistics → ℕ
evicted_for_streams_in counters = more counters.evicted_for_streams counters.removed

-- the number of streams that expired or were evicted
abbrev pub dropped_in : DefragStatistics → ℕ
dropped_in counters =
    more (more counters.expired (evicted_for_streams_in counters)) counters.evicted_for_bytes

-- the number of streams that were evicted or discarded, by the cause
abbrev pub evictions_in : DefragStatistics → Evictions
evictions_in counters = record {
  expired = counters.expired;
  for_streams = evicted_for_streams_in counters;
  for_bytes = counters.evicted_for_bytes;
  discarded = counters.discarded;
}

-- the counts of fragments, given the counters of the pool, whether evictions are counted by their cause, and the number of
-- open streams
abbrev pub fragments_with : DefragStatistics → Bool → ℕ → Fragments
fragments_with counters reports incomplete = record {
  reassembled = counters.completed;
  not_reassembled = rejected_in counters;
  dropped = dropped_in counters;
  evictions = if reports then Some (evictions_in counters) else None;
  «open» = incomplete;
}

-- the counts of fragments of this pool
abbrev pub fragments_of : DumpOptions → PoolHistory → Fragments
fragments_of options pool =
    fragments_with pool.statistics (reports_evictions options) (count_by is_open pool.rows)

-- ---- complete runs

abbrev pub with_fragments : Fragments → PlainSummary → PlainSummary
with_fragments fragments before = if before.wanted then record before { fragments = Some fragments } else before

-- The counts of fragments of this pool are in the summary, if payloads are reassembled.
abbrev pub CountsFragments : DumpOptions → PoolHistory → PlainSummary → PlainSummary → Type 0
CountsFragments options pool old new =
    new ≡ (if options.reassemble then with_fragments (fragments_of options pool) old else old)

-- The output is the lines of the packets of the input, and all of them were counted, shown or not, and so were their
-- fragments.
abbrev pub IsCountedDump : DumpOptions → Bool → Ending → PlainSummary → PlainSummary → List ℕ → List ℕ → Type 0
IsCountedDump options ended ending old new read written =
    (packets : List DecodedPacket) × IsRun options ended ending read packets
    × (pool : PoolHistory) × AreAllLines options packets written pool
    × CountsFragments options pool (counted_all packets old) new

-- ---- sums

-- 1 if a packet has a valid layer, else 0
abbrev pub parsed_in : Content → ℕ
parsed_in (packet read) = 1
parsed_in (refusal error) = 0
parsed_in (other_link number) = 0

-- the number of packets with a valid layer
abbrev pub parsed_count : List DecodedPacket → ℕ
parsed_count [] = 0
parsed_count (one ∷ others) = parsed_in one.content + parsed_count others

-- the total of counts by key
abbrev pub total : {K : Type 0} → List (K × ℕ) → ℕ
total [] = 0
total (entry ∷ others) = entry.1 + total others

-- The rows of a summary add up to its packets, given the number of packets with a valid layer. The counts of each error
-- add up to all refused or stopped packets, and so do truncated and malformed ones.
pub record AddsUp (parsed : ℕ) (summary : PlainSummary) : Type 0 where
  pub packets : summary.packets ≡ parsed + summary.refused.all + total summary.unread
  pub refused : summary.refused.all ≡ total summary.refused.errors
  pub stopped : summary.stopped.all ≡ total summary.stopped.errors
  pub within : summary.stopped.all ≤ parsed
  pub causes : summary.cut + summary.malformed ≡ summary.refused.all + summary.stopped.all
