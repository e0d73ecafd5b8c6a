-- Counts of a summary: one more packet, counts by key, and their sums.
use Rattle.std.proofs.Common.{◌≡◌, ◌<◌, ℕ, ◌+◌, ◌^◌, Bool, true, false, if◌then◌else◌, List, [], ◌∷◌, ◌++◌, Some, None}
use Rattle.std.proofs.Common.{Option, Bor, drop, get_or, map, set, take, refl, sym, ap, subst, ◌∙◌, arith}
use Rattle.std.proofs.Common.{add-one, add-zero, add_assoc, length, nat_eq, suc, zero-add}
use Rattle.std.proofs.lemmas.List.{drop_more, set_split}
use Rattle.std.specs.Str.{bytes_eq}
use Rattle.capture_reader.specs.Captures.{PlainShown}
use Rattle.etherparse.specs.Layers.{Layers}
use Rattle.etherparse.specs.StrictFrames.{layers_in}
use Rattle.etherparse.specs.Types.Layer.{Layer}
use Rattle.etherparse.specs.Types.SliceError.{SliceError}
use Rattle.link_types.specs.Openings.{opening_of}
use Rattle.packet_dump.specs.DecodedPackets.{DecodedPacket}
use Rattle.packet_dump.specs.PacketContents.{Content, other_link, packet, refusal}
use Rattle.packet_dump.specs.ErrorNames.{error_name}
use Rattle.packet_dump.specs.Summaries.{AddsUp, PlainSummary, counted, counted_all, counted_one}
use Rattle.packet_dump.specs.Summaries.{has_cooked, is_truncated, more, new_summary, parsed_count, parsed_in}
use Rattle.packet_dump.specs.Summaries.{plain_count, total, with_cause, with_content, with_one, with_packet}
use Rattle.packet_dump.specs.Summaries.{with_read, with_refused, with_stop}

-- The counts of several packets and one more are those of the packets, with this one.
pub counted_more : (packets : List DecodedPacket) (one : DecodedPacket) (start : PlainSummary)
    → counted_all (packets ++ one ∷ []) start ≡ counted_one one (counted_all packets start)
counted_more [] one start = refl
counted_more (first ∷ others) one start = counted_more others one (counted_one first start)

-- ---- counts by key

-- The entries from a position on are the entry there and the rest.
rest_at : {X : Type 0} (entries : List X) (i : ℕ) (entry : X) → i < length entries → entry ≡ get_or entries i entry
    → drop i entries ≡ entry ∷ drop (i + 1) entries
rest_at entries i entry within is =
    drop_more entries i entry within ∙ ap (λ e. e ∷ drop (i + 1) entries) (sym is)

-- One more is counted for the key at this position.
pub counted_here : {K : Type 0} (same : K → K → Bool) (key : K) (entries : List (K × ℕ)) (i : ℕ) (entry : K × ℕ)
    → i < length entries → entry ≡ get_or entries i entry → same entry.0 key ≡ true
    → take i entries ++ with_one same key (drop i entries) ≡ set entries i (entry.0, more entry.1 1)
counted_here same key entries i entry within is found =
    let rest : drop i entries ≡ entry ∷ drop (suc i) entries = rw (← add-one) (rest_at entries i entry within is) in
    rw (rest, found, set_split entries i (entry.0, more entry.1 1) within)

named_if : (found : Bool) (entry : Bor (List ℕ) × ℕ) (others next : List (Bor (List ℕ) × ℕ))
    → map plain_count (if found then (entry.0, more entry.1 1) ∷ others else entry ∷ next)
    ≡ (if found then (entry.0.now, more entry.1 1) ∷ map plain_count others
    else plain_count entry ∷ map plain_count next)
named_if true entry others next = refl
named_if false entry others next = refl

-- Counts by name are those by its text.
pub named : (name : Bor (List ℕ)) (entries : List (Bor (List ℕ) × ℕ))
    → map plain_count (with_one (λ a b. bytes_eq a.now b.now) name entries)
    ≡ with_one bytes_eq name.now (map plain_count entries)
named name [] = refl
named name (entry ∷ others) =
    named_if (bytes_eq entry.0.now name.now) entry others (with_one (λ a b. bytes_eq a.now b.now) name others)
    ∙ rw (named name others)

-- ---- sums

-- A packet is counted if a summary is wanted.
pub counted_wanted : (cooked : Bool) (shown : PlainShown) (content : Content) (summary : PlainSummary)
    → summary.wanted ≡ true
    → with_content cooked shown content (with_packet shown summary) ≡ counted cooked shown content summary
counted_wanted cooked shown content summary is =
    sym (ap (λ (b : Bool). if b then with_content cooked shown content (with_packet shown summary) else summary) is)

total_step : {K : Type 0} (b : Bool) (entry : K × ℕ) (others next : List (K × ℕ))
    → entry.1 + total others + 1 < 2 ^ 64 → total next ≡ total others + 1
    → total (if b then (entry.0, more entry.1 1) ∷ others else entry ∷ next) ≡ (entry.1 + total others) + 1
total_step true entry others next fits is = omega (arith, fits)
total_step false entry others next fits is = omega (arith, is)

total_one : {K : Type 0} (same : K → K → Bool) (key : K) (entries : List (K × ℕ)) → total entries + 1 < 2 ^ 64
    → total (with_one same key entries) ≡ total entries + 1
total_one same key [] fits = refl
total_one same key (entry ∷ others) fits =
    total_step (same entry.0 key) entry others (with_one same key others) fits
    (total_one same key others (omega (arith, fits)))

-- A packet was counted, and the rows still add up.
record AddsOne (parsed : ℕ) (before next : PlainSummary) : Type 0 where
  up : AddsUp parsed next
  packets : next.packets ≡ before.packets + 1
  wanted : next.wanted ≡ before.wanted

adds_stop : (cooked : Bool) (layers : Layers) (shown : PlainShown) (cut : Bool) (stop : Option (SliceError × Layer))
    (parsed : ℕ) (before : PlainSummary) → AddsUp parsed before → before.packets + 1 < 2 ^ 64
    → AddsOne (parsed + 1) before (with_stop cut stop (with_read cooked layers (with_packet shown before)))
adds_stop cooked layers shown cut None parsed before up fits =
    record { up = omega arith; packets = omega arith; wanted = refl }
adds_stop cooked layers shown true (Some stop) parsed before up fits =
    let one = total_one bytes_eq (error_name stop.0) before.stopped.errors (omega arith) in
    record { up = omega arith; packets = omega arith; wanted = refl }
adds_stop cooked layers shown false (Some stop) parsed before up fits =
    let one = total_one bytes_eq (error_name stop.0) before.stopped.errors (omega arith) in
    record { up = omega arith; packets = omega arith; wanted = refl }

adds_refused : (shown : PlainShown) (cut : Bool) (error : SliceError) (parsed : ℕ) (before : PlainSummary)
    → AddsUp parsed before → before.packets + 1 < 2 ^ 64
    → AddsOne (parsed + 0) before (with_refused error (with_cause cut (with_packet shown before)))
adds_refused shown true error parsed before up fits =
    let one = total_one bytes_eq (error_name error) before.refused.errors (omega arith) in
    record { up = omega arith; packets = omega arith; wanted = refl }
adds_refused shown false error parsed before up fits =
    let one = total_one bytes_eq (error_name error) before.refused.errors (omega arith) in
    record { up = omega arith; packets = omega arith; wanted = refl }

adds_content : (cooked : Bool) (shown : PlainShown) (content : Content) (parsed : ℕ) (before : PlainSummary)
    → AddsUp parsed before → before.packets + 1 < 2 ^ 64
    → AddsOne (parsed + parsed_in content) before (with_content cooked shown content (with_packet shown before))
adds_content cooked shown (packet read) parsed before up fits =
    adds_stop cooked (layers_in read) shown (is_truncated shown) read.net.inside.stop parsed before up fits
adds_content cooked shown (refusal error) parsed before up fits =
    adds_refused shown (is_truncated shown) error parsed before up fits
adds_content cooked shown (other_link number) parsed before up fits =
    let one = total_one nat_eq number before.unread (omega arith) in
    record { up = omega arith; packets = omega arith; wanted = refl }

adds_all : (packets : List DecodedPacket) (parsed : ℕ) (summary : PlainSummary) → summary.wanted ≡ true
    → summary.packets + length packets < 2 ^ 64 → AddsUp parsed summary
    → AddsUp (parsed + parsed_count packets) (counted_all packets summary)
    × ((counted_all packets summary).packets ≡ summary.packets + length packets)
adds_all [] parsed summary is fits up = (rw add-zero up, omega arith)
adds_all (one ∷ others) parsed summary is fits up =
    let cooked = has_cooked (opening_of one.shown.link one.shown.bytes) in
    let parsed_next = parsed + parsed_in one.content in
    let step = subst (λ (s : PlainSummary). AddsOne parsed_next summary s)
    (counted_wanted cooked one.shown one.content summary is)
    (adds_content cooked one.shown one.content parsed summary up (omega arith)) in
    let rest = adds_all others parsed_next (counted_one one summary) (step.wanted ∙ is) (omega arith) step.up in
    (rw (← add_assoc) rest.0, omega arith)

-- The rows of a summary add up.
pub adds_up : (packets : List DecodedPacket) (by_cause : Bool) → length packets < 2 ^ 64
    → AddsUp (parsed_count packets) (counted_all packets (new_summary true by_cause))
    × ((counted_all packets (new_summary true by_cause)).packets ≡ length packets)
adds_up packets by_cause fits =
    let all = adds_all packets 0 (new_summary true by_cause) refl (omega arith) (omega arith) in
    (rw zero-add at all.0, omega arith)
