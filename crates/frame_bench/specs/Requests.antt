-- The requests of lines.
use Rattle.std.specs.Prelude.{◌≡◌, ℕ, ◌^◌, ◌<◌, ◌≤◌, ◌⊎◌, List, [], ◌∷◌, ◌++◌, length, codes, Ok}
use Rattle.std.specs.Str.Parse.{IsNumeral, digits_value}
use Rattle.hex.specs.Hex.{decode_of}
use Rattle.etherparse.specs.Types.Entry.{Entry}
use Rattle.etherparse.specs.Types.Entry.TheVariants.{Ethernet, LinuxSll, EtherType, Ip}
use Rattle.line_io.specs.Lines.{space, words}
use Rattle.frame_bench.specs.declared.requests.Request.{Request}
use Rattle.frame_bench.specs.declared.requests.Request.TheVariants.{Slice, Fragment, Drop, Limit}

-- Holds if the word names the entry. No word names a payload whose ether type is given.
abbrev pub NamesEntry : List ℕ → Entry → Type 0
NamesEntry word Ethernet = word ≡ codes "eth"
NamesEntry word LinuxSll = word ≡ codes "sll"
NamesEntry word (EtherType type) = ⊥
NamesEntry word Ip = word ≡ codes "ip"

-- Holds if the text is the word of an entry, a space, and then this rest.
abbrev pub EntryAt : List ℕ → Entry → List ℕ → Type 0
EntryAt text entry rest = (word : List ℕ) × NamesEntry word entry × (text ≡ word ++ space ∷ rest)

-- Holds if the text represents these bytes: `-` for none, and otherwise two hexadecimal digits of either case for each.
abbrev pub IsHex : List ℕ → List ℕ → Type 0
IsHex text bytes = ((text ≡ codes "-") × (bytes ≡ [])) ⊎ ((0 < length text) × (decode_of text ≡ Ok bytes))

-- Holds if the text is this number: 1 to 20 decimal digits of a value below 2 ^ 64.
abbrev pub IsNumber : List ℕ → ℕ → Type 0
IsNumber text number =
    IsNumeral 10 text × (length text ≤ 20) × (digits_value 10 text ≡ number) × (number < 2 ^ 64)

-- Holds if the text is this limit: 1 to 5 decimal digits of a value of at most 65535.
abbrev pub IsLimit : List ℕ → ℕ → Type 0
IsLimit text limit = IsNumber text limit × (length text ≤ 5) × (limit ≤ 65535)

-- Holds if the line is this request with these bytes, in words separated by exactly one space.
abbrev pub Asks : List ℕ → Request → List ℕ → Type 0
Asks line (Slice entry) bytes =
    (word text : List ℕ) × NamesEntry word entry × (line ≡ words (codes "slice" ∷ word ∷ text ∷ []))
    × IsHex text bytes
Asks line (Fragment entry timestamp channel) bytes =
    (word time number text : List ℕ) × NamesEntry word entry
    × (line ≡ words (codes "frag" ∷ word ∷ time ∷ number ∷ text ∷ []))
    × IsNumber time timestamp × IsNumber number channel × IsHex text bytes
Asks line (Drop timestamp) bytes =
    (time : List ℕ) × (line ≡ words (codes "drop" ∷ time ∷ [])) × IsNumber time timestamp × (bytes ≡ [])
Asks line (Limit max) bytes =
    (text : List ℕ) × (line ≡ words (codes "limit" ∷ text ∷ [])) × IsLimit text max × (bytes ≡ [])
