-- The text of options while they are read one after the other.
use Rattle.std.proofs.Common.{◌≡◌, ℕ, List, [], ◌∷◌, ◌++◌, Result, Ok, Err, append_assoc, ap, refl, sym, ◌∙◌}
use Rattle.std.proofs.lemmas.List.{append-nil}
use Rattle.etherparse.specs.Types.TcpOptionElement.{TcpOptionElement}
use Rattle.etherparse.specs.Types.TcpOptionReadError.{TcpOptionReadError}
use Rattle.etherparse.specs.TcpOptionBytes.{AreItems, EndsOptions, IsOption, RefusesOption}
use Rattle.packet_text.specs.TcpDetails.{IsOptionsText, items_text, option_text, unread_option_text}

-- The text appended so far, with that of the options in the remaining bytes, is the text of all options.
abbrev pub IsAppending : (start now bytes left : List ℕ) → Type 0
IsAppending start now bytes left =
    (rest : List (Result TcpOptionElement TcpOptionReadError)) → AreItems left rest
    → (all : List (Result TcpOptionElement TcpOptionReadError)) × AreItems bytes all
    × (now ++ items_text rest ≡ start ++ items_text all)

-- At the start nothing is appended.
pub begins : (start bytes : List ℕ) → IsAppending start start bytes bytes
begins start bytes = λ rest is. (rest, is, refl)

-- Appending an option keeps the invariant.
pub goes_on : (start now next bytes left after : List ℕ) (option : TcpOptionElement)
    → IsAppending start now bytes left → IsOption left (option, after) → next ≡ now ++ option_text option
    → IsAppending start next bytes after
goes_on start now next bytes left after option before is appended =
    λ rest others.
    let more = before (Ok option ∷ rest) (after, is, others) in (
      more.0,
      more.1,
      ap (λ t. t ++ items_text rest) appended ∙ append_assoc now (option_text option) (items_text rest) ∙ more.2,
    )

-- If no option is left, the whole text is appended.
pub ends : (start now bytes left : List ℕ) → IsAppending start now bytes left → EndsOptions left
    → (text : List ℕ) × IsOptionsText bytes text × (now ≡ start ++ text)
ends start now bytes left before none =
    let more = before [] none in
    (items_text more.0, (more.0, more.1, refl), sym (append-nil now) ∙ more.2)

-- If the next option cannot be read, appending the reason completes the text.
pub stops : (start now next bytes left : List ℕ) (error : TcpOptionReadError) → IsAppending start now bytes left
    → RefusesOption left error → next ≡ now ++ unread_option_text error
    → (text : List ℕ) × IsOptionsText bytes text × (next ≡ start ++ text)
stops start now next bytes left error before refused appended =
    let more = before (Err error ∷ []) (refused, refl) in (
      items_text more.0,
      (more.0, more.1, refl),
      appended ∙ ap (λ t. now ++ t) (sym (append-nil (unread_option_text error))) ∙ more.2,
    )
