-- The request of a line whose first words are known.
use Rattle.std.proofs.Common.{◌≡◌, ◌≢◌, ℕ, List, [], ◌∷◌, ◌++◌, Option, Some}
use Rattle.std.proofs.Common.{None, get_or, refl, ap, ◌∙◌, sym, subst, arith, Bor}
use Rattle.std.specs.Prelude.{IfSome, IfNone, MatchOption}
use Rattle.std.proofs.lemmas.List.{append_cancel_left}
use Rattle.std.specs.Prelude.{codes}
use Rattle.etherparse.specs.Types.Entry.{Entry}
use Rattle.etherparse.specs.Types.Entry.TheVariants.{Ethernet, LinuxSll, EtherType, Ip}
use Rattle.line_io.specs.Lines.{space, words}
use Rattle.frame_bench.specs.Requests.{Asks, EntryAt, IsHex, IsNumber, IsLimit}
use Rattle.frame_bench.specs.declared.requests.Request.{Request}
use Rattle.frame_bench.specs.declared.requests.Request.TheVariants.{Slice, Fragment, Drop, Limit}
use Rattle.frame_bench.proofs.TextLemmas.{NumberAt, number_at_one}

-- A word is followed by a space or is not.
pub strip_word_found : (text word rest : List ℕ) (o : Option (Bor (List ℕ))) → text ≡ word ++ rest
    → MatchOption o ((r : List ℕ) → rest ≢ (space ∷ []) ++ r) (λ x. rest ≡ (space ∷ []) ++ x.now)
    → IfSome o (λ r. text ≡ word ++ space ∷ r.now) × IfNone o ((r : List ℕ) → text ≡ word ++ space ∷ r → ⊥)
strip_word_found text word rest (Some x) parts is = (parts ∙ ap (λ t. word ++ t) is, tt)
strip_word_found text word rest None parts refused =
    (tt, λ r e. refused r (append_cancel_left word rest (space ∷ r) (sym parts ∙ e)))

-- Texts with different first bytes differ.
pub other_word : {A : Type 0} (x y : ℕ) (text rest : List ℕ) → x ∷ text ≡ y ∷ rest → x ≢ y → A
other_word x y text rest same other = absurd (other (ap (λ t. get_or t 0 0) same))

-- A text that begins with a word begins with an equal word.
pub begins_with : (text word known rest : List ℕ) → word ≡ known → text ≡ word ++ space ∷ rest
    → text ≡ known ++ space ∷ rest
begins_with text word known rest same parts = parts ∙ ap (λ w. w ++ space ∷ rest) same

-- Two words that one text begins with, followed by their rests, are equal.
both : (text v w known other a b : List ℕ) → v ≡ known → w ≡ other → text ≡ v ++ space ∷ a → text ≡ w ++ space ∷ b
    → known ++ space ∷ a ≡ other ++ space ∷ b
both text v w known other a b is_known is_other first second =
    sym (begins_with text v known a is_known first) ∙ begins_with text w other b is_other second

-- A text begins with the word of one entry only.
pub same_entry : (text : List ℕ) (entry other : Entry) (a b : List ℕ) → EntryAt text entry a → EntryAt text other b
    → (entry ≡ other) × (a ≡ b)
same_entry text Ethernet Ethernet a b x y = (
  refl,
  append_cancel_left (codes "eth" ++ space ∷ []) a b
      (both text x.0 y.0 (codes "eth") (codes "eth") a b x.1 y.1 x.2 y.2),
)
same_entry text LinuxSll LinuxSll a b x y = (
  refl,
  append_cancel_left (codes "sll" ++ space ∷ []) a b
      (both text x.0 y.0 (codes "sll") (codes "sll") a b x.1 y.1 x.2 y.2),
)
same_entry text Ip Ip a b x y = (
  refl,
  append_cancel_left (codes "ip" ++ space ∷ []) a b (both text x.0 y.0 (codes "ip") (codes "ip") a b x.1 y.1 x.2 y.2),
)
same_entry text Ethernet LinuxSll a b x y =
    other_word 101 115 _ _ (both text x.0 y.0 (codes "eth") (codes "sll") a b x.1 y.1 x.2 y.2) (omega arith)
same_entry text Ethernet Ip a b x y =
    other_word 101 105 _ _ (both text x.0 y.0 (codes "eth") (codes "ip") a b x.1 y.1 x.2 y.2) (omega arith)
same_entry text LinuxSll Ethernet a b x y =
    other_word 115 101 _ _ (both text x.0 y.0 (codes "sll") (codes "eth") a b x.1 y.1 x.2 y.2) (omega arith)
same_entry text LinuxSll Ip a b x y =
    other_word 115 105 _ _ (both text x.0 y.0 (codes "sll") (codes "ip") a b x.1 y.1 x.2 y.2) (omega arith)
same_entry text Ip Ethernet a b x y =
    other_word 105 101 _ _ (both text x.0 y.0 (codes "ip") (codes "eth") a b x.1 y.1 x.2 y.2) (omega arith)
same_entry text Ip LinuxSll a b x y =
    other_word 105 115 _ _ (both text x.0 y.0 (codes "ip") (codes "sll") a b x.1 y.1 x.2 y.2) (omega arith)
same_entry text (EtherType type) other a b x y = absurd x.1
same_entry text Ethernet (EtherType type) a b x y = absurd y.1
same_entry text LinuxSll (EtherType type) a b x y = absurd y.1
same_entry text Ip (EtherType type) a b x y = absurd y.1

-- ---- the words of a line, one by one

-- Holds if the request is this, with the bytes of the last word.
abbrev pub AsksOf : Request → List ℕ → Request → List ℕ → Type 0
AsksOf is text request frame = (is ≡ request) × IsHex text frame

-- Holds if the words from the channel on are those of the request.
abbrev pub AsksFromChannel : Entry → ℕ → List ℕ → Request → List ℕ → Type 0
AsksFromChannel entry timestamp text request frame =
    (number rest : List ℕ) × (channel : ℕ) × NumberAt text number rest channel
    × AsksOf (Fragment entry timestamp channel) rest request frame

-- Holds if the words from the timestamp on are those of the request.
abbrev pub AsksFromTimestamp : Entry → List ℕ → Request → List ℕ → Type 0
AsksFromTimestamp entry text request frame =
    (time rest : List ℕ) × (timestamp : ℕ) × NumberAt text time rest timestamp
    × AsksFromChannel entry timestamp rest request frame

-- The requests of lines with these first words.
pub asked_slice : (rest : List ℕ) (request : Request) (frame : List ℕ)
    → Asks (codes "slice" ++ space ∷ rest) request frame
    → (entry : Entry) × (text : List ℕ) × EntryAt rest entry text × AsksOf (Slice entry) text request frame
asked_slice rest (Slice entry) frame (word, text, names, parts, is) = (
  entry,
  text,
  (word, names, append_cancel_left (codes "slice" ++ space ∷ []) rest (word ++ space ∷ text) parts),
  (refl, is),
)
asked_slice rest (Fragment entry timestamp channel) frame asks = other_word 115 102 _ _ asks.5 (omega arith)
asked_slice rest (Drop timestamp) frame asks = other_word 115 100 _ _ asks.1 (omega arith)
asked_slice rest (Limit max) frame asks = other_word 115 108 _ _ asks.1 (omega arith)

pub asked_fragment : (rest : List ℕ) (request : Request) (frame : List ℕ)
    → Asks (codes "frag" ++ space ∷ rest) request frame
    → (entry : Entry) × (text : List ℕ) × EntryAt rest entry text
    × AsksFromTimestamp entry text request frame
asked_fragment rest (Slice entry) frame asks = other_word 102 115 _ _ asks.3 (omega arith)
asked_fragment rest (Fragment entry timestamp channel) frame
    (word, time, number, text, names, parts, is_time, is_number, is) = (
      entry,
      words (time ∷ number ∷ text ∷ []),
      (
        word,
        names,
        append_cancel_left (codes "frag" ++ space ∷ []) rest (word ++ space ∷ words (time ∷ number ∷ text ∷ [])) parts,
      ),
      (
        time,
        words (number ∷ text ∷ []),
        timestamp,
        (refl, is_time),
        (number, text, channel, (refl, is_number), (refl, is)),
      ),
    )
asked_fragment rest (Drop timestamp) frame asks = other_word 102 100 _ _ asks.1 (omega arith)
asked_fragment rest (Limit max) frame asks = other_word 102 108 _ _ asks.1 (omega arith)

pub asked_drop : (rest : List ℕ) (request : Request) (frame : List ℕ)
    → Asks (codes "drop" ++ space ∷ rest) request frame
    → (timestamp : ℕ) × (request ≡ Drop timestamp) × IsNumber rest timestamp × (frame ≡ [])
asked_drop rest (Slice entry) frame asks = other_word 100 115 _ _ asks.3 (omega arith)
asked_drop rest (Fragment entry timestamp channel) frame asks = other_word 100 102 _ _ asks.5 (omega arith)
asked_drop rest (Drop timestamp) frame (time, parts, is, none) = (
  timestamp,
  refl,
  subst (λ t. IsNumber t timestamp) (sym (append_cancel_left (codes "drop" ++ space ∷ []) rest time parts)) is,
  none,
)
asked_drop rest (Limit max) frame asks = other_word 100 108 _ _ asks.1 (omega arith)

pub asked_limit : (rest : List ℕ) (request : Request) (frame : List ℕ)
    → Asks (codes "limit" ++ space ∷ rest) request frame
    → (max : ℕ) × (request ≡ Limit max) × IsLimit rest max × (frame ≡ [])
asked_limit rest (Slice entry) frame asks = other_word 108 115 _ _ asks.3 (omega arith)
asked_limit rest (Fragment entry timestamp channel) frame asks = other_word 108 102 _ _ asks.5 (omega arith)
asked_limit rest (Drop timestamp) frame asks = other_word 108 100 _ _ asks.1 (omega arith)
asked_limit rest (Limit max) frame (text, parts, is, none) = (
  max,
  refl,
  subst (λ t. IsLimit t max) (sym (append_cancel_left (codes "limit" ++ space ∷ []) rest text parts)) is,
  none,
)

-- The requests of lines with further known words.
pub asked_slice_of : (rest text : List ℕ) (entry : Entry) → EntryAt rest entry text
    → (request : Request) (frame : List ℕ) → Asks (codes "slice" ++ space ∷ rest) request frame
    → AsksOf (Slice entry) text request frame
asked_slice_of rest text entry at request frame asks =
    let asked = asked_slice rest request frame asks in
    let same = same_entry rest entry asked.0 text asked.1 at asked.2 in
    (ap (λ (e : Entry). Slice e) same.0 ∙ asked.3.0, subst (λ t. IsHex t frame) (sym same.1) asked.3.1)

pub asked_fragment_of : (rest text : List ℕ) (entry : Entry) → EntryAt rest entry text
    → (request : Request) (frame : List ℕ) → Asks (codes "frag" ++ space ∷ rest) request frame
    → AsksFromTimestamp entry text request frame
asked_fragment_of rest text entry at request frame asks =
    let asked = asked_fragment rest request frame asks in
    let same = same_entry rest entry asked.0 text asked.1 at asked.2 in
    subst (λ (e : Entry). AsksFromTimestamp e text request frame) (sym same.0)
    (subst (λ t. AsksFromTimestamp asked.0 t request frame) (sym same.1) asked.3)

pub asked_from_timestamp : (text time rest : List ℕ) (timestamp : ℕ) (entry : Entry)
    → NumberAt text time rest timestamp → (request : Request) (frame : List ℕ)
    → AsksFromTimestamp entry text request frame → AsksFromChannel entry timestamp rest request frame
asked_from_timestamp text time rest timestamp entry at request frame asks =
    let same = number_at_one text time asks.0 rest asks.1 timestamp asks.2 at asks.3 in
    subst (λ n. AsksFromChannel entry n rest request frame) (sym same.2)
    (subst (λ t. AsksFromChannel entry asks.2 t request frame) (sym same.1) asks.4)

pub asked_from_channel : (text number rest : List ℕ) (timestamp channel : ℕ) (entry : Entry)
    → NumberAt text number rest channel → (request : Request) (frame : List ℕ)
    → AsksFromChannel entry timestamp text request frame
    → AsksOf (Fragment entry timestamp channel) rest request frame
asked_from_channel text number rest timestamp channel entry at request frame asks =
    let same = number_at_one text number asks.0 rest asks.1 channel asks.2 at asks.3 in
    subst (λ n. AsksOf (Fragment entry timestamp n) rest request frame) (sym same.2)
    (subst (λ t. AsksOf (Fragment entry timestamp asks.2) t request frame) (sym same.1) asks.4)

-- A line with all these words is this request.
pub asks_fragment : (rest text time timed number numbered frame : List ℕ) (entry : Entry) (timestamp channel : ℕ)
    → EntryAt rest entry text → NumberAt text time timed timestamp
    → NumberAt timed number numbered channel → IsHex numbered frame
    → Asks (codes "frag" ++ space ∷ rest) (Fragment entry timestamp channel) frame
asks_fragment rest text time timed number numbered frame entry timestamp channel at at_time at_number is = (
  at.0,
  time,
  number,
  numbered,
  at.1,
  ap (λ t. codes "frag" ++ space ∷ t) at.2
      ∙ ap (λ t. codes "frag" ++ space ∷ (at.0 ++ space ∷ t)) at_time.0
      ∙ ap (λ t. codes "frag" ++ space ∷ (at.0 ++ space ∷ (time ++ space ∷ t))) at_number.0,
  at_time.1,
  at_number.1,
  is,
)
