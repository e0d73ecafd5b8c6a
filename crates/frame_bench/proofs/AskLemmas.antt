-- A line is exactly one request, or none.
use Rattle.std.proofs.Common.{◌≡◌, ◌≢◌, ◌⊎◌, inl, inr, ℕ, List, [], ◌∷◌, ◌++◌}
use Rattle.std.proofs.Common.{refl, sym, ap, ◌∙◌, subst, arith, Result, Ok, Err}
use Rattle.std.specs.Prelude.{codes}
use Rattle.std.proofs.lemmas.Bool.{cases_eq}
use Rattle.hex.specs.Hex.{decode_of}
use Rattle.hex.specs.declared.error.FromHexError.{FromHexError}
use Rattle.hex.proofs.HexLemmas.{decode_of-ok, decode_of-same}
use Rattle.etherparse.specs.Bytes.{AreBytes}
use Rattle.etherparse.specs.Types.Entry.{Entry}
use Rattle.etherparse.specs.Types.Entry.TheVariants.{Ethernet, LinuxSll, EtherType, Ip}
use Rattle.line_io.specs.Lines.{space, words}
use Rattle.frame_bench.specs.Requests.{Asks, EntryAt, IsHex}
use Rattle.frame_bench.specs.declared.requests.Request.{Request}
use Rattle.frame_bench.specs.declared.requests.Request.TheVariants.{Slice, Fragment, Drop, Limit}
use Rattle.frame_bench.proofs.RequestLemmas.{AsksFromChannel, begins_with}
use Rattle.frame_bench.proofs.RequestLemmas.{asked_drop, asked_fragment, asked_fragment_of, asked_from_channel}
use Rattle.frame_bench.proofs.RequestLemmas.{asked_from_timestamp, asked_limit, asked_slice, asked_slice_of}
use Rattle.frame_bench.proofs.RequestLemmas.{asks_fragment}
use Rattle.frame_bench.proofs.TextLemmas.{NumberAt, number_at_cases, number_cases, number_one, limit_cases, limit_one}

-- A text begins with a word or does not.
prefix_cases : (word text : List ℕ) → ((rest : List ℕ) × (text ≡ word ++ rest)) ⊎ ((rest : List ℕ) → text ≢ word ++ rest)
prefix_cases [] text = inl (text, refl)
prefix_cases (w ∷ word) [] = inr (λ rest e. cc e)
prefix_cases (w ∷ word) (x ∷ text) =
    elim (cases_eq x w) [
      | inl same ↦
          elim (prefix_cases word text) [
            | inl found ↦ inl (found.0, rw (same, ← found.1) refl)
            | inr other ↦ inr (λ rest e. let tail : text ≡ word ++ rest = cc e in other rest tail)
          ]
      | inr other ↦ inr (λ rest e. let head : x ≡ w = cc e in other head)
    ]

-- A text is `-` or not.
dash_cases : (text : List ℕ) → (text ≡ codes "-") ⊎ (text ≢ codes "-")
dash_cases [] = inr (λ e. cc e)
dash_cases (x ∷ []) =
    elim (cases_eq x 45) [
      | inl same ↦ inl (ap (λ t. t ∷ []) same)
      | inr other ↦ inr (λ e. let head : x ≡ 45 = cc e in other head)
    ]
dash_cases (x ∷ y ∷ text) = inr (λ e. cc e)

-- A text that is not `-` represents bytes or does not.
digits_cases : (text : List ℕ) (bytes : Result (List ℕ) FromHexError) → text ≢ codes "-" → decode_of text ≡ bytes
    → ((bytes : List ℕ) × IsHex text bytes) ⊎ ((bytes : List ℕ) → IsHex text bytes → ⊥)
digits_cases [] bytes other is =
    inr (λ bytes. λ h. elim h [ inl dash ↦ other dash.0 | inr digits ↦ absurd (omega (arith, digits.0)) ])
digits_cases (x ∷ text) (Ok bytes) other is = inl (bytes, inr (omega arith, is))
digits_cases (x ∷ text) (Err error) other is =
    inr (λ bytes. λ h. elim h [ inl dash ↦ other dash.0 | inr digits ↦ (cc (digits.1, is)) ])

-- A text represents bytes or does not.
hex_cases : (text : List ℕ) → ((bytes : List ℕ) × IsHex text bytes) ⊎ ((bytes : List ℕ) → IsHex text bytes → ⊥)
hex_cases text =
    elim (dash_cases text) [
      | inl dash ↦ inl ([], inl (dash, refl))
      | inr other ↦ digits_cases text (decode_of text) other refl
    ]

-- A text represents no other bytes.
hex_one : (text a b : List ℕ) → IsHex text a → IsHex text b → a ≡ b
hex_one text a b (inl x) (inl y) = x.1 ∙ sym y.1
hex_one text a b (inl x) (inr y) = let odd = rw x.0 at y.1 in cc odd
hex_one text a b (inr x) (inl y) = let odd = rw y.0 at x.1 in cc odd
hex_one text a b (inr x) (inr y) = decode_of-same text a b x.1 y.1

-- The numbers that a text represents are below 256.
hex_bytes : (text bytes : List ℕ) → IsHex text bytes → AreBytes bytes
hex_bytes text bytes (inl x) = rw x.1 (λ i. omega arith)
hex_bytes text bytes (inr x) = (decode_of-ok text bytes x.1).3

-- A text begins with the word of an entry and a space, or with none.
entry_cases : (text : List ℕ)
    → ((entry : Entry) × (rest : List ℕ) × EntryAt text entry rest)
    ⊎ ((entry : Entry) (rest : List ℕ) → EntryAt text entry rest → ⊥)
entry_cases text =
    elim (prefix_cases (codes "eth" ++ space ∷ []) text) [
      | inl found ↦ inl (Ethernet, found.0, (codes "eth", refl, found.1))
      | inr no_ethernet ↦ elim (prefix_cases (codes "sll" ++ space ∷ []) text) [
        | inl found ↦ inl (LinuxSll, found.0, (codes "sll", refl, found.1))
        | inr no_linux_sll ↦ elim (prefix_cases (codes "ip" ++ space ∷ []) text) [
          | inl found ↦ inl (Ip, found.0, (codes "ip", refl, found.1))
          | inr no_ip ↦ inr (no_entry text no_ethernet no_linux_sll no_ip)
        ]
      ]
    ]
  where
    no_entry : (text : List ℕ) → ((rest : List ℕ) → text ≢ codes "eth" ++ space ∷ rest)
        → ((rest : List ℕ) → text ≢ codes "sll" ++ space ∷ rest)
        → ((rest : List ℕ) → text ≢ codes "ip" ++ space ∷ rest)
        → (entry : Entry) (rest : List ℕ) → EntryAt text entry rest → ⊥
    no_entry text no_ethernet no_linux_sll no_ip Ethernet rest at =
        no_ethernet rest (begins_with text at.0 (codes "eth") rest at.1 at.2)
    no_entry text no_ethernet no_linux_sll no_ip LinuxSll rest at =
        no_linux_sll rest (begins_with text at.0 (codes "sll") rest at.1 at.2)
    no_entry text no_ethernet no_linux_sll no_ip (EtherType type) rest at = at.1
    no_entry text no_ethernet no_linux_sll no_ip Ip rest at =
        no_ip rest (begins_with text at.0 (codes "ip") rest at.1 at.2)

-- Holds if a line is a request, or is none.
abbrev AsksOrNot : List ℕ → Type 0
AsksOrNot line =
    ((request : Request) × (bytes : List ℕ) × Asks line request bytes)
    ⊎ ((request : Request) (bytes : List ℕ) → Asks line request bytes → ⊥)

slice_cases : (rest : List ℕ) → AsksOrNot (codes "slice" ++ space ∷ rest)
slice_cases rest =
    elim (entry_cases rest) [
      | inl found ↦ elim (hex_cases found.1) [
        | inl bytes ↦ inl (
          Slice found.0,
          bytes.0,
          (found.2.0, found.1, found.2.1, ap (λ t. codes "slice" ++ space ∷ t) found.2.2, bytes.1),
        )
        | inr none ↦ inr (λ request bytes asks.
            none bytes (asked_slice_of rest found.1 found.0 found.2 request bytes asks).1)
      ]
      | inr other ↦ inr (λ request bytes asks.
          let asked = asked_slice rest request bytes asks in
          other asked.0 asked.1 asked.2)
    ]

fragment_cases : (rest : List ℕ) → AsksOrNot (codes "frag" ++ space ∷ rest)
fragment_cases rest =
    elim (entry_cases rest) [
      | inl found ↦ elim (number_at_cases found.1) [
        | inl time ↦ elim (number_at_cases time.1) [
          | inl number ↦ elim (hex_cases number.1) [
            | inl bytes ↦ inl (
              Fragment found.0 time.2 number.2,
              bytes.0,
              asks_fragment rest found.1 time.0 time.1 number.0 number.1 bytes.0 found.0 time.2 number.2 found.2 time.3
                  number.3 bytes.1,
            )
            | inr none ↦ inr (λ request bytes asks.
                none bytes (asked_from_channel time.1 number.0 number.1 time.2 number.2 found.0 number.3 request bytes
                (after_timestamp rest found.0 found.1 found.2 time.0 time.1 time.2 time.3 request bytes asks)).1)
          ]
          | inr none ↦ inr (λ request bytes asks.
              let asked = after_timestamp rest found.0 found.1 found.2 time.0 time.1 time.2 time.3 request bytes asks in
              none asked.0 asked.1 asked.2 asked.3)
        ]
        | inr none ↦ inr (λ request bytes asks.
            let asked = asked_fragment_of rest found.1 found.0 found.2 request bytes asks in
            none asked.0 asked.1 asked.2 asked.3)
      ]
      | inr other ↦ inr (λ request bytes asks.
          let asked = asked_fragment rest request bytes asks in
          other asked.0 asked.1 asked.2)
    ]
  where
    after_timestamp : (rest : List ℕ) (entry : Entry) (text : List ℕ) (at_entry : EntryAt rest entry text)
        (time timed : List ℕ) (timestamp : ℕ) (at : NumberAt text time timed timestamp)
        (request : Request) (bytes : List ℕ) → Asks (codes "frag" ++ space ∷ rest) request bytes
        → AsksFromChannel entry timestamp timed request bytes
    after_timestamp rest entry text at_entry time timed timestamp at request bytes asks =
        asked_from_timestamp text time timed timestamp entry at request bytes
        (asked_fragment_of rest text entry at_entry request bytes asks)

drop_cases : (rest : List ℕ) → AsksOrNot (codes "drop" ++ space ∷ rest)
drop_cases rest =
    elim (number_cases rest) [
      | inl found ↦ inl (Drop found.0, [], (rest, refl, found.1, refl))
      | inr none ↦ inr (λ request bytes asks.
          let asked = asked_drop rest request bytes asks in
          none asked.0 asked.2)
    ]

limit_line_cases : (rest : List ℕ) → AsksOrNot (codes "limit" ++ space ∷ rest)
limit_line_cases rest =
    elim (limit_cases rest) [
      | inl found ↦ inl (Limit found.0, [], (rest, refl, found.1, refl))
      | inr none ↦ inr (λ request bytes asks.
          let asked = asked_limit rest request bytes asks in
          none asked.0 asked.2)
    ]

-- A line that begins with none of the words is not a request.
no_ask : (line : List ℕ) → ((rest : List ℕ) → line ≢ codes "slice" ++ space ∷ rest)
    → ((rest : List ℕ) → line ≢ codes "frag" ++ space ∷ rest)
    → ((rest : List ℕ) → line ≢ codes "drop" ++ space ∷ rest)
    → ((rest : List ℕ) → line ≢ codes "limit" ++ space ∷ rest)
    → (request : Request) (bytes : List ℕ) → Asks line request bytes → ⊥
no_ask line no_slice no_fragment no_drop no_limit (Slice entry) bytes asks =
    no_slice (words (asks.0 ∷ asks.1 ∷ [])) asks.3
no_ask line no_slice no_fragment no_drop no_limit (Fragment entry timestamp channel) bytes asks =
    no_fragment (words (asks.0 ∷ asks.1 ∷ asks.2 ∷ asks.3 ∷ [])) asks.5
no_ask line no_slice no_fragment no_drop no_limit (Drop timestamp) bytes asks = no_drop asks.0 asks.1
no_ask line no_slice no_fragment no_drop no_limit (Limit max) bytes asks = no_limit asks.0 asks.1

-- A line is a request or is none.
pub ask_cases : (line : List ℕ) → AsksOrNot line
ask_cases line =
    elim (prefix_cases (codes "slice" ++ space ∷ []) line) [
      | inl found ↦ subst AsksOrNot (sym found.1) (slice_cases found.0)
      | inr no_slice ↦ elim (prefix_cases (codes "frag" ++ space ∷ []) line) [
        | inl found ↦ subst AsksOrNot (sym found.1) (fragment_cases found.0)
        | inr no_fragment ↦ elim (prefix_cases (codes "drop" ++ space ∷ []) line) [
          | inl found ↦ subst AsksOrNot (sym found.1) (drop_cases found.0)
          | inr no_drop ↦ elim (prefix_cases (codes "limit" ++ space ∷ []) line) [
            | inl found ↦ subst AsksOrNot (sym found.1) (limit_line_cases found.0)
            | inr no_limit ↦ inr (no_ask line no_slice no_fragment no_drop no_limit)
          ]
        ]
      ]
    ]

-- The numbers in a request are below 256.
pub ask_bytes : (line : List ℕ) (request : Request) (bytes : List ℕ) → Asks line request bytes → AreBytes bytes
ask_bytes line (Slice entry) bytes asks = hex_bytes asks.1 bytes asks.4
ask_bytes line (Fragment entry timestamp channel) bytes asks = hex_bytes asks.3 bytes asks.8
ask_bytes line (Drop timestamp) bytes asks = rw asks.3 (λ i. omega arith)
ask_bytes line (Limit max) bytes asks = rw asks.3 (λ i. omega arith)

-- A line is no other request.
pub ask_one : (line : List ℕ) (r s : Request) (a b : List ℕ) → Asks line r a → Asks line s b → (r ≡ s) × (a ≡ b)
ask_one line (Slice entry) s a b (word, text, names, parts, is) y =
    let again =
    asked_slice_of (word ++ space ∷ text) text entry (word, names, refl) s b (subst (λ l. Asks l s b) parts y) in
    (again.0, hex_one text a b is again.1)
ask_one line (Fragment entry timestamp channel) s a b
    (word, time, number, text, names, parts, is_time, is_number, is) y =
    let numbered = words (number ∷ text ∷ []) in
    let timed = words (time ∷ number ∷ text ∷ []) in
    let again =
    asked_from_channel numbered number text timestamp channel entry (refl, is_number) s b
    (asked_from_timestamp timed time numbered timestamp entry (refl, is_time) s b
    (asked_fragment_of (word ++ space ∷ timed) timed entry (word, names, refl) s b
    (subst (λ l. Asks l s b) parts y))) in
    (again.0, hex_one text a b is again.1)
ask_one line (Drop timestamp) s a b (time, parts, is, none) y =
    let again = asked_drop time s b (subst (λ l. Asks l s b) parts y) in (
      ap (λ (n : ℕ). Drop n) (number_one time timestamp again.0 is again.2) ∙ sym again.1,
      none ∙ sym again.3,
    )
ask_one line (Limit max) s a b (text, parts, is, none) y =
    let again = asked_limit text s b (subst (λ l. Asks l s b) parts y) in (
      ap (λ (n : ℕ). Limit n) (limit_one text max again.0 is again.2) ∙ sym again.1,
      none ∙ sym again.3,
    )
