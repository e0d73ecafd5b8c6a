-- Answers to a text that arrives in chunks.
use Rattle.std.proofs.Common.{◌≡◌, ◌≢◌, ℕ, ◌<◌, List, [], ◌∷◌, ◌++◌, Option, refl, sym, ap, ◌∙◌, subst}
use Rattle.std.proofs.Common.{append_assoc, append-nil, length, arith}
use Rattle.std.proofs.KnownBytes.{Appends-nil, Appends-trans, Consumes-kept, Consumes-nil, Consumes-trans}
use Rattle.std.specs.Io.KnownBytes.{Appends, Consumes, Keeps}
use Rattle.std.proofs.lemmas.List.Elements.{All-append, All-nil}
use Rattle.etherparse.specs.Types.IpDefragPool.{IpDefragPool}
use Rattle.line_io.specs.Lines.{IsWithinLine, line_feed, lines_of}
use Rattle.line_io.specs.Transfers.{Moves}
use Rattle.line_io.specs.WatchedWords.{AppendsPrefix}
use Rattle.line_io.proofs.LineLemmas.{lines_of-ended, lines_of-within}
use Rattle.frame_bench.specs.Answers.{AreAnswers, AnswersAfter, AnswersTo, BeginsAnswersAfter, BeginsAnswersTo}
use Rattle.frame_bench.specs.Answers.{IsAnswer, IsAnswered}
use Rattle.frame_bench.specs.LineCalls.{HoldsLines}
use Rattle.frame_bench.specs.Advances.{Advances, AdvancesTo, BeginsAnswers}

-- Answers after equal lists of earlier lines are equal.
same_before : (before others more : List (List ℕ)) (text : List ℕ) → before ≡ others → AreAnswers before more text
    → AreAnswers others more text
same_before before others more text same answers = subst (λ t. AreAnswers t more text) same answers

-- The answers to some lines followed by those to more are the answers to all of them.
pub AreAnswers-append : (before lines more : List (List ℕ)) (text rest : List ℕ) → AreAnswers before lines text
    → AreAnswers (before ++ lines) more rest → AreAnswers before (lines ++ more) (text ++ rest)
AreAnswers-append before [] more text rest none answers =
    rw none (same_before (before ++ []) before more rest (append-nil before) answers)
AreAnswers-append before (line ∷ lines) more text rest (answer, after, is, parts, others) answers = (
  answer,
  after ++ rest,
  is,
  ap (λ t. t ++ rest) parts ∙ append_assoc answer (line_feed ∷ after) rest,
  AreAnswers-append (before ++ (line ∷ [])) lines more after rest others
      (same_before (before ++ (line ∷ lines)) ((before ++ (line ∷ [])) ++ lines) more rest
      (sym (append_assoc before (line ∷ []) lines)) answers),
)

-- Two chunks in turn advance as one.
pub Advances-then : (before : List (List ℕ)) (a b c p q x y : List ℕ) → (first : Advances before a p x b)
    → Advances (before ++ first.ended) b q y c → Advances before a (p ++ q) (x ++ y) c
Advances-then before a b c p q x y first second = record {
  ended = first.ended ++ second.ended;
  answered = AreAnswers-append before first.ended second.ended x y first.answered second.answered;
  parted = λ more.
      let regrouped : (a ++ (p ++ q)) ++ more ≡ (a ++ p) ++ (q ++ more) = simp append_assoc in
      ap lines_of regrouped ∙ first.parted (q ++ more)
      ∙ ap (λ t. first.ended ++ lines_of t) (sym (append_assoc b q more))
      ∙ ap (λ t. first.ended ++ t) (second.parted more)
      ∙ sym (append_assoc first.ended second.ended (lines_of (c ++ more)));
  within = second.within;
}

-- A chunk that ends the line has its answer.
pub Advances-ended : (before : List (List ℕ)) (line end answer : List ℕ) → IsWithinLine (line ++ end)
    → IsAnswer before (line ++ end) answer
    → Advances before line (end ++ line_feed ∷ []) (answer ++ line_feed ∷ []) []
Advances-ended before line end answer within is = record {
  ended = (line ++ end) ∷ [];
  answered = (answer, [], is, refl, refl);
  parted = λ more.
      let regrouped : (line ++ (end ++ line_feed ∷ [])) ++ more ≡ (line ++ end) ++ line_feed ∷ more =
      simp append_assoc in
      ap lines_of regrouped ∙ lines_of-ended (line ++ end) more within;
  within = All-nil (λ byte. byte ≢ line_feed);
}

-- A chunk followed by the end of its incomplete line has one more answer.
pub Advances-line : (before : List (List ℕ)) (begun taken answers line end answer : List ℕ)
    → (first : Advances before begun taken answers line) → IsWithinLine end
    → IsAnswer (before ++ first.ended) (line ++ end) answer
    → Advances before begun (taken ++ (end ++ line_feed ∷ [])) (answers ++ (answer ++ line_feed ∷ [])) []
Advances-line before begun taken answers line end answer first within is =
    let within_line = All-append (λ byte. byte ≢ line_feed) line end first.within within in
    Advances-then before begun line [] taken (end ++ line_feed ∷ []) answers (answer ++ line_feed ∷ []) first
    (Advances-ended (before ++ first.ended) line end answer within_line is)

-- A chunk followed by bytes without a line feed has no more answers.
pub Advances-rest : (before : List (List ℕ)) (begun taken answers line rest : List ℕ)
    → Advances before begun taken answers line → IsWithinLine rest
    → Advances before begun (taken ++ rest) answers (line ++ rest)
Advances-rest before begun taken answers line rest first within = record {
  ended = first.ended;
  answered = first.answered;
  parted = λ more.
      let regrouped : (begun ++ (taken ++ rest)) ++ more ≡ (begun ++ taken) ++ (rest ++ more) = simp append_assoc in
      ap lines_of regrouped ∙ first.parted (rest ++ more)
      ∙ ap (λ t. first.ended ++ lines_of t) (sym (append_assoc line rest more));
  within = All-append (λ byte. byte ≢ line_feed) line rest first.within within;
}

-- The steps with the state of the pool: a line ends, no line ends, and there is no input.
pub AdvancesTo-line : (before : List (List ℕ)) (begun taken answers line end answer : List ℕ)
    (pool : IpDefragPool ℕ ℕ) → (first : Advances before begun taken answers line) → IsWithinLine end
    → IsAnswer (before ++ first.ended) (line ++ end) answer
    → HoldsLines ((before ++ first.ended) ++ (line ++ end) ∷ []) pool
    → AdvancesTo before begun (taken ++ (end ++ line_feed ∷ [])) (answers ++ (answer ++ line_feed ∷ [])) [] pool
unfolding Advances-line Advances-then Advances-ended
AdvancesTo-line before begun taken answers line end answer pool first within is contents_first = (
  Advances-line before begun taken answers line end answer first within is,
  subst (λ lines. HoldsLines lines pool) (append_assoc before first.ended ((line ++ end) ∷ [])) contents_first,
)

pub AdvancesTo-rest : (before : List (List ℕ)) (begun taken answers line rest : List ℕ) (pool : IpDefragPool ℕ ℕ)
    → AdvancesTo before begun taken answers line pool → IsWithinLine rest
    → AdvancesTo before begun (taken ++ rest) answers (line ++ rest) pool
unfolding Advances-rest
AdvancesTo-rest before begun taken answers line rest pool first within =
    (Advances-rest before begun taken answers line rest first.0 within, first.1)

pub AdvancesTo-none : (before : List (List ℕ)) (line : List ℕ) (pool : IpDefragPool ℕ ℕ) → IsWithinLine line
    → HoldsLines before pool → AdvancesTo before line [] [] line pool
AdvancesTo-none before line pool within contents_first = (
  record {
    ended = [];
    answered = refl;
    parted = λ more. ap (λ t. lines_of (t ++ more)) (append-nil line);
    within = within;
  },
  subst (λ lines. HoldsLines lines pool) (sym (append-nil before)) contents_first,
)

-- A last line without a line feed has its answer.
pub AnswersAfter-line : (before : List (List ℕ)) (line answer : List ℕ) → 0 < length line → IsWithinLine line
    → IsAnswer before line answer → AnswersAfter before line (answer ++ line_feed ∷ [])
AnswersAfter-line before [] answer some within is = absurd (omega arith)
AnswersAfter-line before (byte ∷ line) answer some within is =
    subst (λ t. AreAnswers before t (answer ++ line_feed ∷ [])) (sym (lines_of-within byte line within))
    (answer, [], is, refl, refl)

-- The answers so far and that to the last line are the answers to all input.
pub AnswersAfter-all : (before : List (List ℕ)) (a p x b last : List ℕ) → (first : Advances before a p x b)
    → AnswersAfter (before ++ first.ended) b last → AnswersAfter before (a ++ p) (x ++ last)
AnswersAfter-all before a p x b last first answers =
    let lines : lines_of (a ++ p) ≡ first.ended ++ lines_of b =
    ap lines_of (sym (append-nil (a ++ p))) ∙ first.parted []
    ∙ ap (λ t. first.ended ++ lines_of t) (append-nil b) in
    subst (λ t. AreAnswers before t (x ++ last)) (sym lines)
    (AreAnswers-append before first.ended (lines_of b) x last first.answered answers)

-- The answers so far and a start of further ones are a start of the answers to all input.
pub BeginsAnswersAfter-then : (before : List (List ℕ)) (a b p q x y : List ℕ) → (first : Advances before a p x b)
    → BeginsAnswersAfter (before ++ first.ended) (b ++ q) y → BeginsAnswersAfter before (a ++ (p ++ q)) (x ++ y)
BeginsAnswersAfter-then before a b p q x y first (rest, answers) =
    let lines : lines_of (a ++ (p ++ q)) ≡ first.ended ++ lines_of (b ++ q) =
    ap lines_of (sym (append_assoc a p q)) ∙ first.parted q in (
      rest,
      subst (λ t. AreAnswers before t ((x ++ y) ++ rest)) (sym lines)
          (subst (AreAnswers before (first.ended ++ lines_of (b ++ q))) (sym (append_assoc x y rest))
          (AreAnswers-append before first.ended (lines_of (b ++ q)) x (y ++ rest) first.answered answers)),
    )

-- Two transfers in turn are one transfer; the second may depend on the first.
pub Moves-then : (P R : List ℕ → List ℕ → Type 0) (Q : (r w : List ℕ) → P r w → List ℕ → List ℕ → Type 0)
    → ((r s w v : List ℕ) (p : P r w) → Q r w p s v → R (r ++ s) (w ++ v))
    → (remaining_first remaining_second remaining_third contents_first contents_second contents_third : Option (List ℕ)) → (first : Moves P remaining_first remaining_second contents_first contents_second)
    → Moves (Q first.0 first.1 first.4) remaining_second remaining_third contents_second contents_third → Moves R remaining_first remaining_third contents_first contents_third
Moves-then P R Q both remaining_first remaining_second remaining_third contents_first contents_second contents_third (r, w, consumed, appended, p)
    (s, v, more_consumed, more_appended, q) = (
      r ++ s,
      w ++ v,
      Consumes-trans remaining_first remaining_second remaining_third r s consumed more_consumed,
      Appends-trans contents_first contents_second contents_third w v appended more_appended,
      both r s w v p q,
    )

module _ (answered : (before : List (List ℕ)) (input : List ℕ) → IsAnswered before input) where
  -- The empty text is a start of any answers.
  BeginsAnswers-none : (before : List (List ℕ)) (line piece : List ℕ) → BeginsAnswers before line piece []
  BeginsAnswers-none before line piece = (answered before (line ++ piece)).some

  -- A prefix of the answers is a start of the answers.
  BeginsAnswers-prefix : (before : List (List ℕ)) (line piece prefix rest text next : List ℕ)
      → Advances before line piece text next → text ≡ prefix ++ rest → BeginsAnswers before line piece prefix
  BeginsAnswers-prefix before line piece prefix rest text next advances parts =
      let last = (answered (before ++ advances.ended) next).some in
      let complete = AnswersAfter-all before line piece text next last.0 advances last.1 in
      let regrouped : text ++ last.0 ≡ prefix ++ (rest ++ last.0) =
      ap (λ t. t ++ last.0) parts ∙ append_assoc prefix rest last.0 in
      (rest ++ last.0, subst (AnswersAfter before (line ++ piece)) regrouped complete)

  -- Nothing was read or written.
  pub Moves-kept : (before : List (List ℕ)) (line : List ℕ) (remaining_first remaining_second contents_first : Option (List ℕ)) → Keeps remaining_first remaining_second
      → Moves (BeginsAnswers before line) remaining_first remaining_second contents_first contents_first
  Moves-kept before line remaining_first remaining_second contents_first kept = (
    [],
    [],
    Consumes-kept remaining_first remaining_first remaining_second [] (Consumes-nil remaining_first) kept,
    Appends-nil contents_first,
    BeginsAnswers-none before line [],
  )

  -- A chunk was read, and nothing written.
  pub Moves-read : (before : List (List ℕ)) (line piece : List ℕ) (remaining_first remaining_second contents_first : Option (List ℕ))
      → Consumes remaining_first remaining_second piece → Moves (BeginsAnswers before line) remaining_first remaining_second contents_first contents_first
  Moves-read before line piece remaining_first remaining_second contents_first consumed =
      (piece, [], consumed, Appends-nil contents_first, BeginsAnswers-none before line piece)

  -- A prefix of the answers was written.
  pub Moves-prefix : (before : List (List ℕ)) (line piece text next : List ℕ)
      → (remaining_first remaining_second contents_first contents_second : Option (List ℕ)) → Consumes remaining_first remaining_second piece → Advances before line piece text next
      → AppendsPrefix contents_first contents_second text → Moves (BeginsAnswers before line) remaining_first remaining_second contents_first contents_second
  Moves-prefix before line piece text next remaining_first remaining_second contents_first contents_second consumed advances (prefix, rest, appended, parts) =
      (piece, prefix, consumed, appended, BeginsAnswers-prefix before line piece prefix rest text next advances parts)

  -- Answers to a part of the input are a start of the answers to all of it.
  BeginsAnswersTo-part : (read written line : List ℕ) → Advances [] [] read written line → BeginsAnswersTo read written
  BeginsAnswersTo-part read written line advances =
      let last = (answered advances.ended line).some in
      (last.0, AnswersAfter-all [] [] read written line last.0 advances last.1)

  -- The output of a transfer is a start of the answers.
  pub Moves-part : (line : List ℕ) (remaining_first remaining_second contents_first contents_second : Option (List ℕ))
      (pool : IpDefragPool ℕ ℕ) → Moves (λ read written. AdvancesTo [] [] read written line pool) remaining_first remaining_second contents_first contents_second
      → Moves BeginsAnswersTo remaining_first remaining_second contents_first contents_second
  Moves-part line remaining_first remaining_second contents_first contents_second pool (read, written, consumed, appended, advances) =
      (read, written, consumed, appended, BeginsAnswersTo-part read written line advances.0)

-- Further lines were answered completely.
pub Moves-advanced : (line next : List ℕ) (pool next_pool : IpDefragPool ℕ ℕ)
    (remaining_first remaining_second remaining_third contents_first contents_second contents_third : Option (List ℕ))
    → Moves (λ read written. AdvancesTo [] [] read written line pool) remaining_first remaining_second contents_first contents_second
    → ((before : List (List ℕ)) → HoldsLines before pool
    → Moves (λ read written. AdvancesTo before line read written next next_pool) remaining_second remaining_third contents_second contents_third)
    → Moves (λ read written. AdvancesTo [] [] read written next next_pool) remaining_first remaining_third contents_first contents_third
unfolding Advances-then
Moves-advanced line next pool next_pool remaining_first remaining_second remaining_third contents_first contents_second contents_third first more =
    Moves-then (λ read written. AdvancesTo [] [] read written line pool)
    (λ read written. AdvancesTo [] [] read written next next_pool)
    (λ r w p s v. AdvancesTo p.0.ended line s v next next_pool)
    (λ r s w v p q. (Advances-then [] [] line next r s w v p.0 q.0, q.1))
    remaining_first remaining_second remaining_third contents_first contents_second contents_third first (more first.4.0.ended first.4.1)

-- Further lines were answered in part.
pub Moves-begun : (line : List ℕ) (pool : IpDefragPool ℕ ℕ) (remaining_first remaining_second remaining_third contents_first contents_second contents_third : Option (List ℕ))
    → Moves (λ read written. AdvancesTo [] [] read written line pool) remaining_first remaining_second contents_first contents_second
    → ((before : List (List ℕ)) → HoldsLines before pool
    → Moves (BeginsAnswers before line) remaining_second remaining_third contents_second contents_third)
    → Moves BeginsAnswersTo remaining_first remaining_third contents_first contents_third
Moves-begun line pool remaining_first remaining_second remaining_third contents_first contents_second contents_third first more =
    Moves-then (λ read written. AdvancesTo [] [] read written line pool) BeginsAnswersTo
    (λ r w p. BeginsAnswers p.0.ended line)
    (λ r s w v p q. BeginsAnswersAfter-then [] [] line r s w v p.0 q)
    remaining_first remaining_second remaining_third contents_first contents_second contents_third first (more first.4.0.ended first.4.1)

-- The last line was answered completely.
pub Moves-ended : (line last : List ℕ) (pool : IpDefragPool ℕ ℕ) (remaining_first remaining_second contents_first contents_second contents_third : Option (List ℕ))
    → Moves (λ read written. AdvancesTo [] [] read written line pool) remaining_first remaining_second contents_first contents_second
    → ((before : List (List ℕ)) → HoldsLines before pool → AnswersAfter before line last)
    → Appends contents_second contents_third last → Moves AnswersTo remaining_first remaining_second contents_first contents_third
Moves-ended line last pool remaining_first remaining_second contents_first contents_second contents_third (read, written, consumed, appended, advances) answers more = (
  read,
  written ++ last,
  consumed,
  Appends-trans contents_first contents_second contents_third written last appended more,
  AnswersAfter-all [] [] read written line last advances.0 (answers advances.0.ended advances.1),
)

-- The last line was answered in part.
pub Moves-ended_prefix : (line last : List ℕ) (pool : IpDefragPool ℕ ℕ)
    (remaining_first remaining_second contents_first contents_second contents_third : Option (List ℕ))
    → Moves (λ read written. AdvancesTo [] [] read written line pool) remaining_first remaining_second contents_first contents_second
    → ((before : List (List ℕ)) → HoldsLines before pool → AnswersAfter before line last)
    → AppendsPrefix contents_second contents_third last → Moves BeginsAnswersTo remaining_first remaining_second contents_first contents_third
Moves-ended_prefix line last pool remaining_first remaining_second contents_first contents_second contents_third (read, written, consumed, appended, advances) answers
    (prefix, rest, more, parts) =
    let complete =
    AnswersAfter-all [] [] read written line last advances.0 (answers advances.0.ended advances.1) in
    let regrouped : written ++ last ≡ (written ++ prefix) ++ rest =
    ap (λ t. written ++ t) parts ∙ sym (append_assoc written prefix rest) in (
      read,
      written ++ prefix,
      consumed,
      Appends-trans contents_first contents_second contents_third written prefix appended more,
      (rest, subst (AnswersTo read) regrouped complete),
    )
