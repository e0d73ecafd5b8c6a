-- Packets that a filter is matched with, one after the other.
use Rattle.std.proofs.Common.{◌≡◌, ◌≢◌, ◌⊎◌, ◌<◌, ◌≤◌, ◌+◌, ℕ, Bool, true, false, List, length, drop, arith, refl, sym, ap, add-one, ◌∙◌, inl, inr, subst}
use Rattle.std.specs.Prelude.{Result, Ok, Err, IfOk, IfErr, slice_set}
use Rattle.std.specs.Int.{from_bool}
use Rattle.std.specs.List.{slice_range}
use Rattle.std.specs.Str.{IsUtf8}
use Rattle.std.proofs.Math.ListN.{length-set}
use Rattle.std.proofs.lemmas.List.{drop-set-lt, drop-drop, get_or-set_other, get_or-set_same}
use Rattle.std.proofs.lemmas.Option.{get_or_from_slice_get, slice_get_read}
use borrow.Author.Count.{below_more}
use Rattle.etherparse.specs.Bytes.{bit}
use Rattle.etherparse.specs.Lax.{IsLax}
use Rattle.etherparse.specs.LaxLayers.{LaxLayers, no_lax_layers}
use Rattle.etherparse.specs.LaxRefusals.{RefusesLax}
use Rattle.etherparse.specs.Types.Entry.{Entry}
use Rattle.etherparse.specs.Types.SliceError.{SliceError}
use Rattle.packet_filter.specs.Refusals.{RefusesText}
use Rattle.packet_filter.specs.FilterError.{FilterError as WrongFilter}
use Rattle.packet_filter.specs.FilterErrorKind.TheVariants as kind
use Rattle.packet_filter.specs.Step.{Step}
use Rattle.etherparse_c.specs.FilterAnswers.{AreMatched, HasLayers, IsMatchedAt, IsMatchWith, IsNewFilter, filter_error_part, kind_number}
use Rattle.etherparse_c.specs.declared.filter_handle.FilterHandle.{FilterHandle}
use Rattle.etherparse_c.specs.declared.filter_values.FilterError.{FilterError}
use Rattle.etherparse_c.specs.ManyAnswers.{frame_start, frame_end}

-- Lax slicing leaves the layers of the packet, or none.
pub has_layers : {T : Type 0} (result : Result T SliceError) (entry : Entry) (bytes : List ℕ) (layers : LaxLayers)
    → IfOk result (λ _. IsLax entry bytes layers) → IfErr result (RefusesLax entry bytes)
    → IfErr result (λ _. layers ≡ no_lax_layers) → HasLayers entry bytes layers
has_layers (Ok it) entry bytes layers is refuses none = inl is
has_layers (Err error) entry bytes layers is refuses none = inr ((error, refuses), none)

-- An error whose reason has a number is an error of the text.
refuses : (text : List ℕ) (wrong : WrongFilter) → (wrong.kind ≡ kind.Memory) ⊎ RefusesText text wrong
    → kind_number wrong.kind ≢ 0 → RefusesText text wrong
refuses text wrong (inl memory) known = absurd (known (ap kind_number memory))
refuses text wrong (inr it) known = it

-- An error of a text is an answer with status 1.
pub refused : (bytes text : List ℕ) (handle : FilterHandle) (wrong : WrongFilter) (error : FilterError)
    → text ≡ bytes → IsUtf8 bytes → (wrong.kind ≡ kind.Memory) ⊎ RefusesText text wrong
    → error ≡ filter_error_part wrong → error.kind ≢ 0 → IsNewFilter bytes handle handle error 1
refused bytes text handle wrong error same utf8 either is known =
    let number : kind_number wrong.kind ≢ 0 = λ zero. known (ap (λ (it : FilterError). it.kind) is ∙ zero) in
    let refusal = subst (λ (it : List ℕ). RefusesText it wrong) same (refuses text wrong either number) in
    inr (inl (refl, refl, utf8, (wrong, refusal, is)))

pub bit_of_bool : (b : Bool) → from_bool b ≡ bit b
bit_of_bool true = refl
bit_of_bool false = refl

-- Loop invariant: the packets before an index are matched, and the packet at the index starts at `start`.
pub record Matching (filter : List Step) (entry : Entry) (bytes ends wire_lens old new : List ℕ)
    (start index matched : ℕ) : Type 0 where
  pub are : AreMatched filter entry bytes ends wire_lens old new index
  pub begun : start ≡ frame_start ends index
  pub counted : matched ≡ index
  pub fits : length ends ≤ length new

-- Writing the number at an index does not change a number before it.
kept : (filter : List Step) (entry : Entry) (bytes ends wire_lens matches : List ℕ) (answer index before : ℕ)
    → before < index → index < length matches → IsMatchedAt filter entry bytes ends wire_lens matches before
    → IsMatchedAt filter entry bytes ends wire_lens (slice_set matches index answer) before
kept filter entry bytes ends wire_lens matches answer index before above within it =
    let other : before ≢ index = λ same. omega arith in
    let here : before < length matches = omega arith in
    let read = get_or_from_slice_get matches before it.answer it.answer it.stored in
    record {
      answer = it.answer;
      stored = slice_get_read (slice_set matches index answer) (length matches) before it.answer
          (sym (length-set matches index answer)) here
          (sym (get_or-set_other matches index before answer it.answer other ∙ read));
      ascends = it.ascends;
      within = it.within;
      is = it.is;
    }

-- Matching one more packet preserves the loop invariant.
pub one_more : (filter : List Step) (entry : Entry) (bytes ends wire_lens old new : List ℕ)
    (answer start index matched : ℕ) → Matching filter entry bytes ends wire_lens old new start index matched
    → index < length ends → start ≤ frame_end ends index → frame_end ends index ≤ length bytes
    → IsMatchWith filter entry (slice_range bytes start (frame_end ends index)) wire_lens index answer
    → Matching filter entry bytes ends wire_lens old (slice_set new index answer) (frame_end ends index) (index + 1)
    (index + 1)
one_more filter entry bytes ends wire_lens old new answer start index matched before more ascends within is =
    let now = slice_set new index answer in
    let in_matches : index < length new = omega (arith, before.fits) in
    let here : IsMatchedAt filter entry bytes ends wire_lens now index = record {
      answer = answer;
      stored = slice_get_read now (length new) index answer (sym (length-set new index answer)) in_matches
          (sym (get_or-set_same new index answer answer in_matches));
      ascends = rw (← before.begun) ascends;
      within = within;
      is = rw (← before.begun) is;
    } in
    record {
      are = record {
        most = omega arith;
        each = below_more (IsMatchedAt filter entry bytes ends wire_lens now) index
            (λ earlier above. kept filter entry bytes ends wire_lens new answer index earlier above in_matches
            (before.are.each earlier above))
            here;
        others = drop-set-lt (index + 1) new index answer (omega arith)
            ∙ sym (drop-drop 1 index new) ∙ ap (drop 1) before.are.others ∙ drop-drop 1 index old;
      };
      begun = rw add-one refl;
      counted = refl;
      fits = rw (length-set new index answer) before.fits;
    }
