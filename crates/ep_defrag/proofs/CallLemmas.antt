-- A list of calls, by the clauses of single calls alone.
use Rattle.std.proofs.Common.{◌≡◌, ℕ, Bool, true, false, cond, List, [], ◌∷◌, ◌++◌, append_assoc, Option, Some, None}
use Rattle.std.proofs.Common.{refl, ap, ◌∙◌}
use Rattle.std.proofs.lemmas.List.{append-nil}
use Rattle.std.proofs.lemmas.List.Elements.{filter-append}
use Rattle.ep_defrag.specs.declared.ip_frag_id.IpFragId.{IpFragId}
use Rattle.ep_defrag.specs.Streams.{name_of, same_stream}
use Rattle.ep_defrag.specs.Calls.{Call, gives_frame, drops_streams, returns_buffer, Kept, kept_after, kept_after_all}
use Rattle.ep_defrag.specs.Calls.{concerns, calls_of, table_after, answer_to, answers_after, table_with}

module _ {T C V : Type 0} (limit : ℕ) (eq : C → C → Bool) (keep : V → T → Bool) where
  -- One more call at the end changes the state of a stream as that call does.
  kept_after_all-push : (kept : Option (Kept T)) (calls : List (Call T C V)) (call : Call T C V)
      → kept_after_all limit keep kept (calls ++ call ∷ [])
      ≡ kept_after limit keep (kept_after_all limit keep kept calls) call
  kept_after_all-push kept [] call = refl
  kept_after_all-push kept (first ∷ calls) call = kept_after_all-push (kept_after limit keep kept first) calls call

  -- One more call changes the state of a stream only if it concerns the stream.
  pub after_one_more : (calls : List (Call T C V)) (call : Call T C V) (name : IpFragId C) (does : Bool)
      → concerns eq name call ≡ does → table_after limit eq keep (calls ++ call ∷ []) name
      ≡ cond does (kept_after limit keep (table_after limit eq keep calls name) call)
      (table_after limit eq keep calls name)
  after_one_more calls call name true does =
      rw (filter-append (concerns eq name) calls (call ∷ []), does)
      (kept_after_all-push None (calls_of eq name calls) call)
  after_one_more calls call name false not =
      rw (filter-append (concerns eq name) calls (call ∷ []), not)
      (ap (kept_after_all limit keep None) (append-nil (calls_of eq name calls)))

  pub table_after-push : (calls : List (Call T C V)) (call : Call T C V) (name : IpFragId C)
      → table_after limit eq keep (calls ++ call ∷ []) name
      ≡ table_with limit eq keep (table_after limit eq keep calls) call name
  table_after-push calls (gives_frame None timestamp channel) name =
      after_one_more calls (gives_frame None timestamp channel) name false refl
  table_after-push calls (gives_frame (Some carried) timestamp channel) name =
      after_one_more calls (gives_frame (Some carried) timestamp channel) name
      (same_stream eq (name_of carried channel) name) refl
  table_after-push calls (drops_streams value) name = after_one_more calls (drops_streams value) name true refl
  table_after-push calls returns_buffer name = after_one_more calls returns_buffer name false refl

  -- One more call at the end has one more answer.
  pub answers_after-push : (earlier calls : List (Call T C V)) (call : Call T C V)
      → answers_after limit eq keep earlier (calls ++ call ∷ [])
      ≡ answers_after limit eq keep earlier calls
      ++ answer_to limit (table_after limit eq keep (earlier ++ calls)) call ∷ []
  answers_after-push earlier [] call = rw (append-nil earlier) refl
  answers_after-push earlier (first ∷ calls) call =
      ap (λ answers. answer_to limit (table_after limit eq keep earlier) first ∷ answers)
      (answers_after-push (earlier ++ first ∷ []) calls call
      ∙ ap (λ before.
      answers_after limit eq keep (earlier ++ first ∷ []) calls
      ++ answer_to limit (table_after limit eq keep before) call ∷ [])
      (append_assoc earlier (first ∷ []) calls))
