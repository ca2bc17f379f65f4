use Rattle.std.proofs.Common.{◌≡◌, ◌++◌, ◌+◌, ℕ, List, Option, length, map}
use Rattle.std.specs.Vec.Iter.{into_iter_items, into_iter_len}
use Rattle.join_core.specs.Listing.{listing}
use Rattle.archive_image_admission.specs.Take.{admitted}
use Rattle.command_archives.specs.PassedOver.{part_rows}
use Rattle.command_archives.specs.InnerArriving.{AreFirstRows, images_in, record_in, slice_rows}
use Rattle.command_archives.proofs.arriving.Arrivals.take_slices.Given as goal

abbrev pub invariant-slices : goal.invariant-slices
invariant-slices l = record {
  can : goal.iterator-slices.can_next l.part-iterator;
  finite : goal.iterator-slices.is_finite l.part-iterator;
  long : into_iter_len l.part-iterator ≡ length (into_iter_items l.part-iterator);
  numbered : l.number + into_iter_len l.part-iterator ≡ length (into_iter_items l.initial.part-iterator);
  came : admitted l.self.came (images_in (into_iter_items l.part-iterator))
      ≡ admitted l.initial.self.came (images_in (into_iter_items l.initial.part-iterator));
  rows : l.self.rows.items ++ part_rows l.file l.number (slice_rows l.self.came (into_iter_items l.part-iterator))
      ≡ l.initial.self.rows.items ++ part_rows l.file 0 (slice_rows l.initial.self.came (into_iter_items l.initial.part-iterator));
  are_first : (seen : List (Option (List ℕ))) × (into_iter_items l.initial.part-iterator ≡ seen ++ into_iter_items l.part-iterator)
      × ((records : List (List ℕ)) → AreFirstRows (listing l.initial.self.came) l.initial.self.first_rows.items l.initial.self.rows.items records
      → AreFirstRows (listing l.self.came) l.self.first_rows.items l.self.rows.items (records ++ map record_in seen));
}
