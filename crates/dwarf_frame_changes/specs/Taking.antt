-- The numbers that a sink of turns returned.
-- each number keeps its meaning
abbrev pub KeepsNumbers : {N A : Type 0} → (N → A → Type 0) → (N → A → Type 0) → Type 0
KeepsNumbers {N = N} {A = A} before now = (number : N) (told : A) → before number told → now number told
