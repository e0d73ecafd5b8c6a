-- Texts that are appended one after the other.
use Rattle.std.proofs.Common.{◌≡◌, ℕ, List, ◌++◌, append_assoc}

pub three_parts : (start one two three a b c : List ℕ) → one ≡ start ++ a → two ≡ one ++ b → three ≡ two ++ c
    → three ≡ start ++ (a ++ b ++ c)
three_parts start one two three a b c first second third = rw (third, second, first) (simp append_assoc)

pub four_parts : (start one two three four a b c d : List ℕ) → one ≡ start ++ a → two ≡ one ++ b → three ≡ two ++ c
    → four ≡ three ++ d → four ≡ start ++ (a ++ b ++ c ++ d)
four_parts start one two three four a b c d first second third fourth =
    rw (fourth, third, second, first) (simp append_assoc)
