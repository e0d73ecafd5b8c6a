-- The text of a summary.
use Rattle.std.specs.Prelude.{◌≡◌, ℕ, nat_lt, if◌then◌else◌, Bool, List, [], ◌∷◌, ◌++◌, Option, Some, None, codes}
use Rattle.std.specs.Fmt.{decimal}
use Rattle.packet_dump.specs.Summaries.{IsCountedDump, PlainRefusals, PlainSummary, more, new_summary}
use Rattle.packet_dump.specs.declared.dump_options.DumpOptions.{DumpOptions}
use Rattle.packet_dump.specs.declared.ending.Ending.{Ending}
use Rattle.packet_dump.specs.declared.summary.Evictions.{Evictions}
use Rattle.packet_dump.specs.declared.summary.Fragments.{Fragments}
use Rattle.packet_dump.specs.declared.summary.LayerCounts.{LayerCounts}

-- a count in a line of its own
abbrev pub count_text : List ℕ → ℕ → List ℕ
count_text name times = name ++ codes ": " ++ decimal times ++ codes "\n"

-- a count in a line of its own, unless it is 0
abbrev pub some_text : List ℕ → ℕ → List ℕ
some_text name times = if nat_lt 0 times then count_text name times else []

-- the number of packets, and of their captured and original bytes
abbrev pub packets_text : PlainSummary → List ℕ
packets_text summary =
    codes "packets: " ++ decimal summary.packets ++ codes "\nbytes: " ++ decimal summary.kept ++ codes " of "
    ++ decimal summary.original ++ codes "\n"

-- the counts of layers up to IP
abbrev pub outer_counts_text : LayerCounts → List ℕ
outer_counts_text layers =
    some_text (codes "eth") layers.ethernet ++ some_text (codes "sll") layers.linux_sll
    ++ some_text (codes "vlan") layers.vlan ++ some_text (codes "macsec") layers.macsec
    ++ some_text (codes "ipv4") layers.ipv4 ++ some_text (codes "ipv6") layers.ipv6

-- the counts of the other layers
abbrev pub inner_counts_text : LayerCounts → List ℕ
inner_counts_text layers =
    some_text (codes "arp") layers.arp ++ some_text (codes "fragment") layers.fragment
    ++ some_text (codes "udp") layers.udp ++ some_text (codes "tcp") layers.tcp
    ++ some_text (codes "icmpv4") layers.icmpv4 ++ some_text (codes "icmpv6") layers.icmpv6

-- the count of each error
abbrev pub errors_text : List (List ℕ × ℕ) → List ℕ
errors_text [] = []
errors_text (entry ∷ others) = (codes "  " ++ count_text entry.0 entry.1) ++ errors_text others

abbrev pub refusals_text : List ℕ → PlainRefusals → List ℕ
refusals_text row refusals = count_text row refusals.all ++ errors_text refusals.errors

-- the numbers of truncated and of malformed packets, if they are printed separately
abbrev pub causes_text : PlainSummary → List ℕ
causes_text summary =
    if summary.by_cause
    then count_text (codes "cut by the capture") summary.cut ++ count_text (codes "malformed") summary.malformed
    else []

-- the number of packets of each link type that is not supported
abbrev pub links_text : List (ℕ × ℕ) → List ℕ
links_text [] = []
links_text (entry ∷ others) =
    (codes "  link " ++ decimal entry.0 ++ codes ": " ++ decimal entry.1 ++ codes "\n") ++ links_text others

-- the sum of a number and the counts, saturating
abbrev pub added : ℕ → List (ℕ × ℕ) → ℕ
added all [] = all
added all (entry ∷ others) = added (more all entry.1) others

abbrev pub unread_text : List (ℕ × ℕ) → List ℕ
unread_text unread = some_text (codes "not read") (added 0 unread) ++ links_text unread

-- the counts of evicted and discarded streams by their cause, if they are printed
abbrev pub evictions_text : Option Evictions → List ℕ
evictions_text (Some evictions) =
    count_text (codes "  expired") evictions.expired
    ++ count_text (codes "  too many streams") evictions.for_streams
    ++ count_text (codes "  too many bytes") evictions.for_bytes
    ++ count_text (codes "discarded") evictions.discarded
evictions_text None = []

-- the counts of payloads that are reassembled, expired or evicted, and of rejected fragments
abbrev pub outcomes_text : Fragments → List ℕ
outcomes_text fragments =
    count_text (codes "reassembled") fragments.reassembled
    ++ count_text (codes "not reassembled") fragments.not_reassembled
    ++ count_text (codes "expired or evicted") fragments.dropped ++ evictions_text fragments.evictions

-- the counts of fragments
abbrev pub pieces_text : Fragments → List ℕ
pieces_text fragments = outcomes_text fragments ++ count_text (codes "incomplete at the end") fragments.open

-- the counts of fragments, if payloads are reassembled
abbrev pub fragments_text : Option Fragments → List ℕ
fragments_text (Some fragments) = pieces_text fragments
fragments_text None = []

abbrev pub summary_text : PlainSummary → List ℕ
summary_text summary =
    packets_text summary ++ outer_counts_text summary.layers ++ inner_counts_text summary.layers
    ++ refusals_text (codes "refused") summary.refused ++ refusals_text (codes "stopped") summary.stopped
    ++ causes_text summary ++ unread_text summary.unread ++ fragments_text summary.fragments

-- The output is the lines of a dump, then the text of the summary if one is wanted. The summary counts all packets that
-- were read, shown or not.
abbrev pub IsSummedDump : Bool → DumpOptions → Bool → Ending → List ℕ → List ℕ → Type 0
IsSummedDump wanted options ended ending read written =
    (lines : List ℕ) × (summary : PlainSummary)
    × IsCountedDump options ended ending (new_summary wanted options.quiet) summary read lines
    × (written ≡ lines ++ (if wanted then summary_text summary else []))
