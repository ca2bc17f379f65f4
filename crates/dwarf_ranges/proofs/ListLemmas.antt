-- Steps over the entries of a list of ranges.
use Rattle.std.proofs.Common.{◌≡◌, ℕ, zero, suc, ◌-◌, ◌<◌, true, false, List, [], ◌++◌, cond, Option, Some, None, refl, ap, ◌∙◌, sym, arith}
use Rattle.std.specs.Option.{option_to_list}
use Rattle.dwarf_ranges.specs.Lists.{base_after, is_end, left_after, range_of, ranges_within}
use Rattle.dwarf_ranges.specs.Views.{entry_at}
use Rattle.dwarf_ranges.specs.declared.list_format.ListFormat.{ListFormat}
use Rattle.dwarf_ranges.specs.declared.range.CodeRange.{CodeRange}
use Rattle.dwarf_ranges.specs.declared.range_entry.RangeEntry.{RangeEntry}

-- where no entry is read there are no ranges
pub none_within : (format : ListFormat) (base : ℕ) (bytes : List ℕ) → ranges_within (entry_at format) 0 base bytes ≡ []
unfolding ranges_within
none_within format base bytes = refl

-- nor where none can be read
pub ranges_missing : (left : ℕ) (format : ListFormat) (base : ℕ) (bytes : List ℕ) → entry_at format bytes ≡ None
    → ranges_within (entry_at format) left base bytes ≡ []
unfolding ranges_within
ranges_missing zero format base bytes e = refl
ranges_missing (suc left) format base bytes e = rw e refl

-- the ranges from an entry on, where those after it are known
abbrev after_entry : ℕ → RangeEntry → List CodeRange → List CodeRange
after_entry base entry rest = cond (is_end entry) [] (range_of base entry ++ rest)

ranges_some : (left less : ℕ) (format : ListFormat) (base : ℕ) (bytes : List ℕ) (x : RangeEntry × List ℕ) → left ≡ suc less → entry_at format bytes ≡ Some x
    → ranges_within (entry_at format) left base bytes ≡ after_entry base x.0 (ranges_within (entry_at format) less (base_after base x.0) x.1)
unfolding ranges_within
ranges_some left less format base bytes x more e = rw (more, e) refl

-- the list ends
pub ranges_end : (left : ℕ) (format : ListFormat) (base : ℕ) (bytes : List ℕ) (entry : RangeEntry) (rest : List ℕ) → 0 < left
    → ◌≡◌ {A = Option (RangeEntry × List ℕ)} (Some (entry, rest)) (entry_at format bytes) → is_end entry ≡ true
    → ranges_within (entry_at format) left base bytes ≡ []
ranges_end left format base bytes entry rest some read end =
    ranges_some left (left - 1) format base bytes (entry, rest) (omega arith) (sym read)
    ∙ ap (λ b. cond b [] (range_of base entry ++ ranges_within (entry_at format) (left - 1) (base_after base entry) rest)) end

-- what one entry says, and those after it
pub step : (left : ℕ) (format : ListFormat) (base : ℕ) (bytes : List ℕ) (entry : RangeEntry) (rest : List ℕ) (next : ℕ)
    (range : Option CodeRange) (start : List CodeRange)
    → 0 < left → ◌≡◌ {A = Option (RangeEntry × List ℕ)} (Some (entry, rest)) (entry_at format bytes) → is_end entry
    ≡ false → next ≡ base_after base entry → option_to_list range ≡ range_of base entry
    → ranges_within (entry_at format) left base bytes ≡ start → option_to_list range ++ ranges_within (entry_at format) (left - 1) next rest ≡ start
step left format base bytes entry rest next range start some read goes moved says before =
    let whole : ranges_within (entry_at format) left base bytes ≡ range_of base entry
    ++ ranges_within (entry_at format) (left - 1) (base_after base entry) rest =
    ranges_some left (left - 1) format base bytes (entry, rest) (omega arith) (sym read)
    ∙ ap (λ b. cond b [] (range_of base entry ++ ranges_within (entry_at format) (left - 1) (base_after base entry) rest)) goes in
    (λ i. says i ++ ranges_within (entry_at format) (left - 1) (moved i) rest) ∙ sym whole ∙ before

-- where there is no first range, the list is all
pub no_first : (first : Option CodeRange) (ranges : List CodeRange) → first ≡ None → option_to_list first ++ ranges ≡ ranges
no_first first ranges none = ap (λ f. option_to_list f ++ ranges) none

-- no entry may be read
pub none_left : (format : ListFormat) (bytes : List ℕ) → left_after (entry_at format) 0 bytes ≡ 0
unfolding left_after
none_left format bytes = refl

-- no entry can be read
pub left_missing : (left : ℕ) (format : ListFormat) (bytes : List ℕ) → entry_at format bytes ≡ None → left_after (entry_at format) left bytes ≡ left
unfolding left_after
left_missing zero format bytes e = refl
left_missing (suc left) format bytes e = rw e refl

left_some : (left less : ℕ) (format : ListFormat) (bytes : List ℕ) (x : RangeEntry × List ℕ) → left ≡ suc less → entry_at format bytes ≡ Some x
    → left_after (entry_at format) left bytes ≡ cond (is_end x.0) left (left_after (entry_at format) less x.1)
unfolding left_after
left_some left less format bytes x more e = rw (more, e) refl

-- the list ends
pub left_end : (left : ℕ) (format : ListFormat) (bytes : List ℕ) (entry : RangeEntry) (rest : List ℕ) → 0 < left
    → ◌≡◌ {A = Option (RangeEntry × List ℕ)} (Some (entry, rest)) (entry_at format bytes) → is_end entry ≡ true → left_after (entry_at format) left bytes ≡ left
left_end left format bytes entry rest some read end =
    left_some left (left - 1) format bytes (entry, rest) (omega arith) (sym read)
    ∙ ap (λ b. cond b left (left_after (entry_at format) (left - 1) rest)) end

-- an entry is read
pub left_step : (left : ℕ) (format : ListFormat) (bytes : List ℕ) (entry : RangeEntry) (rest : List ℕ) (start : ℕ) → 0 < left
    → ◌≡◌ {A = Option (RangeEntry × List ℕ)} (Some (entry, rest)) (entry_at format bytes) → is_end entry ≡ false
    → left_after (entry_at format) left bytes ≡ start
    → left_after (entry_at format) (left - 1) rest ≡ start
left_step left format bytes entry rest start some read goes before =
    sym (
    left_some left (left - 1) format bytes (entry, rest) (omega arith) (sym read)
    ∙ ap (λ b. cond b left (left_after (entry_at format) (left - 1) rest)) goes
    )
    ∙ before
