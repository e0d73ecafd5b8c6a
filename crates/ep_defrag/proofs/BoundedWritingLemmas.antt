-- Writing of a fragment's bytes at the positions that no section has.
use Rattle.std.proofs.Common.{◌≡◌, ℕ, ◌+◌, ◌-◌, ◌<◌, ◌≤◌, max, true, false, ◌&&◌, cond, ltb, leb, List, length}
use Rattle.std.proofs.Common.{get_or, sym, refl, ap, ◌∙◌, inl, inr, arith}
use Rattle.std.specs.List.{list_any}
use Rattle.std.proofs.lemmas.Bool.{cases_lt, cases_eq, lt-ltb, le-ltb, lt-leb, le-leb, and_right, not_from_true}
use Rattle.std.proofs.lemmas.Bool.Decides.{nat_tests}
use Rattle.std.proofs.lemmas.List.{get_or_default}
use Rattle.std.proofs.lemmas.List.Folds.{list_any_none, list_any_at}
use Rattle.std.proofs.lemmas.List.FromFn.{fill_by_all}
use Rattle.ep_defrag.specs.declared.ip_frag_range.IpFragRange.{IpFragRange}
use Rattle.ep_defrag.specs.Ranges.{has_byte, AreSeparate}
use Rattle.ep_defrag.specs.BoundedOverlaps.{is_missing, data_with_missing}
use Rattle.ep_defrag.proofs.ApartLemmas.{from_apart, from_at, after_earlier}

module _ (contents : List ℕ) (sections : List IpFragRange) (range : IpFragRange) (payload : List ℕ) where
  -- byte of the fragment at a position
  abbrev own : ℕ → ℕ
  own position = get_or payload (position - range.start) 0

  -- byte at a position once the missing ones before `from` are written
  abbrev written_to : ℕ → ℕ → ℕ
  written_to from position =
      cond (ltb position from && is_missing sections range position) (own position) (get_or contents position 0)

  -- Holds if the missing bytes before `from` are written, and the first `count` sections end there or before.
  pub record IsWrittenTo (now : List ℕ) (from count : ℕ) : Type 0 where
    pub start : range.start ≤ from
    pub ends : (k : ℕ) (d : IpFragRange) → k < count → (get_or sections k d).end ≤ from
    pub len : length now ≡ max (length contents) range.end
    pub bytes : (position : ℕ) → get_or now position 0 ≡ written_to from position

  module _ (apart : AreSeparate sections) where
    -- No section has a position between the end of the passed ones and the start of the next one.
    none_between : (now : List ℕ) (from count : ℕ) (e : IpFragRange) → count < length sections
        → IsWrittenTo now from count → (position : ℕ) → from ≤ position → position < (get_or sections count e).start
        → list_any (has_byte position) sections ≡ false
    none_between now from count e place written position low high =
        let section = get_or sections count e in
        list_any_none (has_byte position) sections
        (λ k d inside. elim (cases_lt k count) [
          | inl passed ↦
              let ended : (get_or sections k d).end ≤ from = written.ends k d passed in
              grind (arith, nat_tests, ended)
          | inr later ↦
              let first : (get_or sections count d).start ≡ section.start =
              ap (λ at. at.start) (get_or_default sections count d e place) in
              let starts : section.start ≤ (get_or sections k d).start = elim (cases_eq k count) [
                | inl same ↦ omega (arith, first, ap (λ at. (get_or sections at d).start) same)
                | inr other ↦
                    omega (
                      arith,
                      first,
                      after_earlier 0 sections (from_apart sections apart) count k d (omega arith) inside,
                      (from_at 0 sections (from_apart sections apart) count d place).1,
                    )
              ] in
              grind (arith, nat_tests, starts)
        ])

    -- The bytes before the next section are written, and then those before its end are.
    pub written_more : (now next : List ℕ) (from count stop : ℕ) (e : IpFragRange) → count < length sections
        → (get_or sections count e).start ≤ range.end → IsWrittenTo now from count → length next ≡ length now
        → ((position : ℕ) → get_or next position 0
        ≡ cond (leb from position && ltb position (get_or sections count e).start) (own position)
        (get_or now position 0))
        → stop ≡ max from (get_or sections count e).end → IsWrittenTo next stop (count + 1)
    written_more now next from count stop e place within written same_len part last_is =
        let section = get_or sections count e in
        let ordered : section.start ≤ section.end =
        (from_at 0 sections (from_apart sections apart) count e place).1 in
        record {
          start = omega (arith, written.start, last_is);
          ends = λ k d passed. elim (cases_eq k count) [
            | inl same ↦
                let last : (get_or sections k d).end ≡ section.end =
                ap (λ at. (get_or sections at d).end) same
                ∙ ap (λ at. at.end) (get_or_default sections count d e place) in
                omega (arith, last, last_is)
            | inr other ↦ omega (arith, written.ends k d (omega arith), last_is)
          ];
          len = same_len ∙ written.len;
          bytes = λ position. part position ∙ elim (cases_lt position from) [
            | inl passed ↦
                rw (lt-leb from position passed, lt-ltb position stop (omega (arith, last_is)))
                (written.bytes position ∙ (let test = lt-ltb position from passed in rw test refl))
            | inr left ↦ elim (cases_lt position section.start) [
              | inl before ↦
                  let none = none_between now from count e place written position left before in
                  let inside : has_byte position range ≡ true = grind (arith, nat_tests, written.start) in
                  rw (
                    le-leb from position left,
                    lt-ltb position section.start before,
                    lt-ltb position stop (omega (arith, last_is)),
                    inside,
                    none,
                  )
                  refl
              | inr from_section ↦
                  rw (and_right (leb from position) _ (le-ltb position section.start from_section))
                  (written.bytes position
                  ∙ (let test = le-ltb position from left in rw test refl)
                  ∙ sym (not_written position from_section left))
            ]
          ];
        }
      where
        not_written : (position : ℕ) → (get_or sections count e).start ≤ position → from ≤ position
            → written_to stop position ≡ get_or contents position 0
        not_written position low left = elim (cases_lt position (get_or sections count e).end) [
          | inl inside ↦
              let section = get_or sections count e in
              let has : has_byte position section ≡ true = grind (arith, nat_tests, low, inside) in
              let some = list_any_at (has_byte position) sections count e place has in
              let missing : is_missing sections range position ≡ false =
              and_right (has_byte position range) _ (not_from_true _ some) in
              let test = and_right (ltb position stop) _ missing in rw test refl
          | inr after ↦
              let test = le-ltb position stop (omega (arith, last_is)) in rw test refl
        ]

    -- Once the bytes after the last section are written, all missing bytes are.
    pub written_all : (now next : List ℕ) (from count : ℕ) → length sections ≤ count → IsWrittenTo now from count
        → length next ≡ length now
        → ((position : ℕ) → get_or next position 0
        ≡ cond (leb from position && ltb position range.end) (own position) (get_or now position 0))
        → next ≡ data_with_missing contents sections range payload
    written_all now next from count all written same_len part =
        fill_by_all
        (λ position. cond (is_missing sections range position) (own position) (get_or contents position 0))
        next (max (length contents) range.end) 0 (same_len ∙ written.len)
        (λ position inside. part position ∙ elim (cases_lt position from) [
          | inl passed ↦
              rw (lt-leb from position passed)
              (written.bytes position ∙ (let test = lt-ltb position from passed in rw test refl))
          | inr left ↦
              let none : list_any (has_byte position) sections ≡ false =
              list_any_none (has_byte position) sections
              (λ k d below.
              let ended : (get_or sections k d).end ≤ from = written.ends k d (omega arith) in
              grind (arith, nat_tests, ended)) in
              elim (cases_lt position range.end) [
                | inl within ↦
                    rw (
                      le-leb from position left,
                      lt-ltb position range.end within,
                      le-leb range.start position (omega (arith, written.start)),
                      none,
                    )
                    refl
                | inr past ↦
                    let has : has_byte position range ≡ false = grind (arith, nat_tests, past) in
                    rw (and_right (leb from position) _ (le-ltb position range.end past), has)
                    (written.bytes position ∙ (let test = le-ltb position from left in rw test refl))
              ]
        ])
