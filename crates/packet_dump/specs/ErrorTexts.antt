-- Texts of errors, and the exit status.
use Rattle.std.specs.Prelude.{ℕ, ◌-◌, ◌==◌, ◌/◌, ◌&&◌, ◌||◌, nat_le, nat_lt, not, if◌then◌else◌, Bool, true, false}
use Rattle.std.specs.Prelude.{List, [], ◌∷◌, ◌++◌, Option, Some, None, Result, Ok, Err, codes, drop, length, take}
use Rattle.std.specs.List.{list_any}
use Rattle.capture_reader.specs.declared.refusal.Refusal.{Refusal}
use Rattle.capture_reader.specs.declared.refusal.Refusal.TheVariants.{UnknownMagic}
use Rattle.line_io.specs.declared.run_error.RunError.{RunError}
use Rattle.line_io.specs.declared.run_error.RunError.TheVariants.{Read, Write, OutOfMemory}
use Rattle.packet_filter.specs.KindTexts.{kind_text}
use Rattle.packet_filter.specs.FilterError.{FilterError}
use Rattle.packet_filter.specs.FilterErrorKind.{FilterErrorKind}
use Rattle.packet_filter.specs.FilterErrorKind.TheVariants.{Long}
use Rattle.packet_dump.specs.declared.ending.Ending.{Ending}
use Rattle.packet_dump.specs.declared.ending.Ending.TheVariants.{Complete, Enough, Broken}
use Rattle.packet_dump.specs.declared.filters.FilterFault.{FilterFault}
use Rattle.packet_dump.specs.declared.filters.FilterFault.TheVariants as fault
use Rattle.packet_dump.specs.declared.options.UsageError.{UsageError}
use Rattle.packet_dump.specs.declared.options.UsageError.TheVariants as usage
use Rattle.packet_dump.specs.declared.saving.SaveState.{SaveState}
use Rattle.packet_dump.specs.declared.saving.SaveState.TheVariants.{Unasked, Open, Stopped}

-- the line for standard error
abbrev pub run_error_text : RunError → List ℕ
run_error_text Read = codes "packet_dump: read failed"
run_error_text Write = codes "packet_dump: write failed"
run_error_text OutOfMemory = codes "packet_dump: out of memory"

-- the exit status after a run: 0 if the complete capture or the wanted number of packets was read
abbrev pub status_of : Result Ending RunError → ℕ
status_of (Ok Complete) = 0
status_of (Ok Enough) = 0
status_of (Ok (Broken packets error)) = 1
status_of (Err error) = 1

-- the exit status after a run that may have saved packets: 1 if not all selected packets were saved, else that of the
-- run
abbrev pub status_with : Result Ending RunError → SaveState → ℕ
status_with outcome Unasked = status_of outcome
status_with outcome (Open link) = status_of outcome
status_with outcome (Stopped fault) = 1

-- the exit status for a wrong command line
abbrev pub usage_status : UsageError → ℕ
usage_status usage.OutOfMemory = 1
usage_status error = 2

-- the exit status for a wrong filter
abbrev pub filter_status : FilterFault → ℕ
filter_status fault.OutOfMemory = 1
filter_status (fault.Wrong text error) = 2

-- a hint about a file that begins with the magic number of gzip (RFC 1952, 2.3.1) or of zstd (RFC 8878, 3.1.1)
abbrev pub magic_hint : ℕ → Option (List ℕ)
magic_hint magic =
    if magic / 65536 == 0x1f8b then Some (codes "packet_dump: it is compressed: gzip -dc FILE | packet_dump") else
    (if magic == 0x28b52ffd then Some (codes "packet_dump: it is compressed: zstd -dc FILE | packet_dump") else None)

-- a hint about a capture that is rejected
abbrev pub hint_text : Refusal → Option (List ℕ)
hint_text (UnknownMagic magic) = magic_hint magic
hint_text other = None

-- ---- the error of a filter expression

-- True for the error of a text that is too long.
abbrev pub is_long : FilterErrorKind → Bool
is_long Long = true
is_long kind = false

-- a byte of a text in a line: a space for an ASCII control character
abbrev pub line_byte : ℕ → ℕ
line_byte byte = if nat_lt byte 32 || byte == 127 then 32 else byte

-- a text in a line
abbrev pub line_text : List ℕ → List ℕ
line_text [] = []
line_text (byte ∷ bytes) = line_byte byte ∷ line_text bytes

-- the wrong token; none at the end of the text, and for a text that is too long
abbrev pub marked_token : List ℕ → FilterError → List ℕ
marked_token text error = if is_long error.kind then [] else take (error.end - error.start) (drop error.start text)

-- True if the bytes contain a space or a byte below it.
abbrev pub has_blank : List ℕ → Bool
has_blank bytes = list_any (λ byte. nat_le byte 32) bytes

-- True if the wrong token is in the first word of the text, which may be meant as a second file.
abbrev pub is_in_first_word : List ℕ → FilterError → Bool
is_in_first_word text error =
    not (length (marked_token text error) == 0) && not (has_blank (take error.start text))

-- the token in quotation marks, if there is one
abbrev pub quoted_token : List ℕ → List ℕ
quoted_token token = if length token == 0 then [] else codes "'" ++ line_text token ++ codes "': "

-- the hint that only one file is read, if wanted
abbrev pub hint_if : Bool → List ℕ
hint_if true = codes "; only one file is read"
hint_if false = []

-- the line with the wrong token and the reason; `reads` is whether a capture is read
abbrev pub reason_text : List ℕ → FilterError → Bool → List ℕ
reason_text text error reads =
    codes "packet_dump: " ++ quoted_token (marked_token text error) ++ kind_text error.kind
    ++ hint_if (reads && is_in_first_word text error) ++ codes "\n"

-- a space for each byte
abbrev pub spaces : List ℕ → List ℕ
spaces [] = []
spaces (byte ∷ bytes) = 32 ∷ spaces bytes

-- the lines with the text, and with a `^` under the first character of the token, if what precedes it is in ASCII
abbrev pub marked_text : List ℕ → ℕ → List ℕ
marked_text text start =
    codes "  " ++ line_text text ++ codes "\n  " ++ spaces (take start text) ++ codes "^\n"

-- the lines of an error
abbrev pub expression_error_text : List ℕ → FilterError → Bool → List ℕ
expression_error_text text error reads =
    reason_text text error reads ++ (if is_long error.kind then [] else marked_text text error.start)
