-- A list of fragments added in turn to a new buffer.
use Rattle.std.specs.Prelude.{Option, Some, None, Result, Ok, Err, List, [], ◌∷◌, ◌++◌}
use Rattle.ep_defrag.specs.declared.ip_defrag_error.IpDefragError.{IpDefragError}
use Rattle.ep_defrag.specs.IpFragments.{IpFragment}
use Rattle.ep_defrag.specs.FragmentRefusals.{refusal_of}

-- list with the fragment, unless it is rejected
abbrev pub with_unless : Option IpDefragError → List IpFragment → IpFragment → List IpFragment
with_unless None accepted fragment = accepted ++ fragment ∷ []
with_unless (Some error) accepted fragment = accepted

-- accepted fragments after one more, which is added if it fits within 65535 bytes
abbrev pub accepted_with : List IpFragment → IpFragment → List IpFragment
accepted_with accepted fragment = with_unless (refusal_of accepted fragment) accepted fragment

-- answer to a fragment with this error, if any
abbrev pub ok_unless : Option IpDefragError → Result (Unit {0}) IpDefragError
ok_unless None = Ok tt
ok_unless (Some error) = Err error

-- fragments accepted in the end, if these were accepted before
abbrev pub accepted_after : List IpFragment → List IpFragment → List IpFragment
accepted_after accepted [] = accepted
accepted_after accepted (fragment ∷ later) = accepted_after (accepted_with accepted fragment) later

-- answer to each fragment, if these were accepted before
abbrev pub answers_after : List IpFragment → List IpFragment → List (Result (Unit {0}) IpDefragError)
answers_after accepted [] = []
answers_after accepted (fragment ∷ later) =
    ok_unless (refusal_of accepted fragment) ∷ answers_after (accepted_with accepted fragment) later
