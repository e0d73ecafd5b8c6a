-- Changes of the parser: what each token changes, and which changes a token may make.
use Rattle.std.specs.Prelude.{◌≡◌, ℕ, Bool, true, List, Option, Some, None, Result, Ok, Err}
use Rattle.filter_tokens.specs.declared.filter_error.FilterErrorKind.{FilterErrorKind}
use Rattle.filter_tokens.specs.Tokens.{Token}
use Rattle.filter_language.specs.declared.change.Change.{Change}
use Rattle.filter_language.specs.declared.change.Change.TheVariants as change
use Rattle.filter_language.specs.declared.change.Completion.{Completion}
use Rattle.filter_language.specs.declared.change.Completion.TheVariants as completion
use Rattle.filter_language.specs.declared.head.Head.{Head}
use Rattle.filter_language.specs.declared.mode.Mode.{Mode}
use Rattle.filter_language.specs.declared.mode.Mode.TheVariants as mode
use Rattle.filter_language.specs.States.{Frame, Reading, Reads, ReadsValue, ReadsWord, State, Stops, StopsWord, close_left, finish_bare, finish_value, in_mode, negating, open_level, opened, qualified, read_after}

-- The state in a mode with these qualifiers in force, around which are these frames.
abbrev pub state_in : Mode → Option Head → Bool → List Frame → State
state_in within q only frames = record { mode = within; head = q; only_values = only; frames = frames }

-- The state with the operand complete.
abbrev pub settled_by : State → Completion → State
settled_by state completion.Done = state
settled_by state (completion.Bare p) = finish_bare state p
settled_by state (completion.InForce p) = finish_value state p
settled_by state (completion.Value h p) = finish_value (qualified state h) p

abbrev pub settling : State → Option Completion → Option State
settling state None = None
settling state (Some how) = Some (settled_by state how)

-- The state after a change.
abbrev pub changed : (most : ℕ) → State → Change → Token → Reading
changed most state (change.Continue next) token = Ok (in_mode state next)
changed most state (change.Qualify h next) token = Ok (in_mode (qualified state h) next)
changed most state (change.Complete how) token = Ok (settled_by state how)
changed most state (change.After how) token = read_after (Some (settled_by state how)) token
changed most state (change.Not only) token = open_level most state only negating state.only_values
changed most state (change.Open only) token = open_level most state only (opened state.head state.only_values) only
changed most state (change.NotValues h) token = open_level most (qualified state h) true negating state.only_values
changed most state (change.OpenValues h) token =
    open_level most (qualified state h) true (opened (Some h) state.only_values) true
changed most state (change.CloseLeft operand mask) token = close_left state operand mask state.frames

-- Result of a token in a state, by the change that the token makes.
abbrev pub reading : (most : ℕ) → State → Result Change FilterErrorKind → Token → Reading
reading most state (Ok next) token = changed most state next token
reading most state (Err found) token = Err found

-- The operand goes on.
abbrev pub IsWithin : Mode → Type 0
IsWithin mode.Complete = ⊥
IsWithin other = Unit {0}

-- The change is possible in this mode.
abbrev pub IsAptIn : Mode → Change → Type 0
IsAptIn now (change.Continue next) = IsWithin now × IsWithin next
IsAptIn now (change.Qualify h next) = IsWithin now × IsWithin next
IsAptIn now (change.Complete completion.Done) = now ≡ mode.Complete
IsAptIn now (change.After completion.Done) = now ≡ mode.Complete
IsAptIn now other = IsWithin now

abbrev pub IsApt : Mode → Result Change FilterErrorKind → Type 0
IsApt now (Ok next) = IsAptIn now next
IsApt now (Err found) = Unit {0}

abbrev pub IsAptEnd : Mode → Option Completion → Type 0
IsAptEnd now (Some how) = IsAptIn now (change.Complete how)
IsAptEnd now None = Unit {0}

-- The state after a change is that after the token, and the error of the change is that of the token.
abbrev pub IsChange : (most : ℕ) → State → Token → Change → Type 0
IsChange most state token made =
    ((next : State) → changed most state made token ≡ Ok next → Reads most state token next)
    × ((found : FilterErrorKind) → changed most state made token ≡ Err found → Stops most state token found)

-- The change is what a word leads to.
abbrev pub IsWordChange : Mode → Option Head → List ℕ → Change → Type 0
IsWordChange within q text made =
    (most : ℕ) (only : Bool) (frames : List Frame) (token : Token)
    → (next : State) × (changed most (state_in within q only frames) made token ≡ Ok next)
    × ReadsWord (state_in within q only frames) within text next

abbrev pub IsValueChange : Option Head → List ℕ → Change → Type 0
IsValueChange q text made =
    (most : ℕ) (state : State) (token : Token)
    → (next : State) × (changed most state made token ≡ Ok next) × ReadsValue state q text next

abbrev pub IsModeChange : Mode → List ℕ → Change → Type 0
IsModeChange within text made =
    (most : ℕ) (state : State) (token : Token)
    → (next : State) × (changed most state made token ≡ Ok next) × ReadsWord state within text next

-- A word has this kind of error.
abbrev pub StopsWordIn : Mode → Option Head → List ℕ → FilterErrorKind → Type 0
StopsWordIn within q text found =
    (only : Bool) (frames : List Frame) → StopsWord (state_in within q only frames) within text found

abbrev pub StopsMode : Mode → List ℕ → FilterErrorKind → Type 0
StopsMode within text found = (state : State) → StopsWord state within text found
