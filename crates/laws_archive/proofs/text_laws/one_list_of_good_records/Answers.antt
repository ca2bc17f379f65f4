use Rattle.std.proofs.Common.{◌≡◌, ℕ, List, sym, ◌∙◌, inl, inr}
use Rattle.archive_records.specs.Kind.{archive_format}
use Rattle.archive_merge.specs.Merging.{AreGoodRecords}
use Rattle.archive_merge.proofs.Fronts.{one_longest, front_magic}
use Rattle.laws_archive.proofs.text_laws.one_list_of_good_records.Goals as goal

one : (text : List ℕ) (a b : List (List ℕ)) → AreGoodRecords text a → AreGoodRecords text b → a ≡ b
one text a b (inl l) (inl k) = one_longest (archive_format text) text a b l k
one text a b (inl l) (inr n) = absurd (n.0 (front_magic text a l))
one text a b (inr n) (inl l) = absurd (n.0 (front_magic text b l))
one text a b (inr n) (inr m) = n.1 ∙ sym m.1

pub returns : goal.returns
returns c = one
