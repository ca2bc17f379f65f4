use Rattle.std.proofs.Common.{◌≡◌, ◌+◌, ◌*◌, ◌-◌, ◌≤◌, ◌∙◌, ℕ, List, [], ◌∷◌, ◌++◌, sym, ap, subst, inr, arith, length}
use Rattle.std.proofs.Common.{map, take, drop, length-drop, length-take}
use Rattle.std.specs.Prelude.{All, Ok}
use Rattle.std.proofs.lemmas.List.Elements.{All-push}
use Rattle.std.specs.List.{concat}
use Rattle.std.proofs.lemmas.List.{length-take-le, map-append, take-append-drop, take_all}
use Rattle.archive_records.specs.Text.{last_of}
use Rattle.index_format.specs.Entry.{HasItsFields, entry_bytes}
use Rattle.index_format.specs.Text.{PassChecks, check_entry}
use Rattle.index_format.proofs.Checks.{concat_more, pass_push, passed}
use Rattle.index_format.proofs.checking.entries_in.Goals as goal
use Rattle.archive_records.proofs.Apart.{last_of-push as last_push}

-- so many bytes from an offset on
part_is : (bytes : List ℕ) (at n : ℕ) → take (at + n - at) (drop at bytes) ≡ take n (drop at bytes)
part_is bytes at n = let e : at + n - at ≡ n = omega arith in ap (λ (k : ℕ). take k (drop at bytes)) e

-- an entry has its length
long_part : (bytes : List ℕ) (k count : ℕ) → length bytes ≡ 122 * count → k + 1 ≤ count → length (take 122 (drop (122 * k) bytes)) ≡ 122
long_part bytes k count whole lt = length-take-le 122 (drop (122 * k) bytes) (omega (arith, whole, lt, length-drop (122 * k) bytes))

pub returns-in-Err-clause-faulty : goal.returns-in-Err-clause-faulty
returns-in-Err-clause-faulty c =
    let bytes = c.args.bytes.now in
    let k = c.reading.index in
    let before = map entry_bytes c.reading.entries.items in
    let inv = c.reading.invariant in
    inr (
      before,
      record {
        pass = inv.pass;
        rest = drop (122 * k) bytes;
        whole = sym (take-append-drop (122 * k) bytes) ∙ ap (λ (t : List ℕ). t ++ drop (122 * k) bytes) (sym inv.whole);
        long = omega (arith, c.requires.whole, c.reading-test.true, length-drop (122 * k) bytes);
        fails = (λ i. check_entry c.args.end (sym inv.last_is i) (sym (part_is bytes (122 * k) 122) i)) ∙ sym c.check_entry.ensures.checked ∙ c.in-Err.is;
        offset_is = omega (arith, ap length inv.whole, length-take (122 * k) bytes, c.requires.whole, c.reading-test.true);
      },
    )

pub of_bytes-requires : goal.of_bytes-requires
of_bytes-requires c =
    let bytes = c.args.bytes.now in
    let k = c.reading.index in
    let entry = take (122 * k + 122 - 122 * k) (drop (122 * k) bytes) in
    let p = passed c.args.end c.reading.last.now entry (sym c.check_entry.ensures.checked ∙ c.in_default.is) in
    record {
      long = ap length (part_is bytes (122 * k) 122) ∙ long_part bytes k c.args.count c.requires.whole (omega arith);
      tag = p.tag;
      kind = p.kind;
      length_is = p.length_is;
    }

pub reading-preserved : goal.reading-preserved
reading-preserved c =
    let bytes = c.args.bytes.now in
    let k = c.reading.index in
    let xs = map entry_bytes c.reading.entries.items in
    let x = take 122 (drop (122 * k) bytes) in
    let inv = c.reading.invariant in
    let grown : map entry_bytes c.push.new.self.items ≡ xs ++ x ∷ [] =
    ap (map entry_bytes) c.in_default-push.ensures.items
    ∙ map-append entry_bytes c.reading.entries.items (c.of_bytes.result ∷ [])
    ∙ ap (λ (t : List ℕ). xs ++ t ∷ []) (c.of_bytes.ensures.bytes ∙ part_is bytes (122 * k) 122) in
    let checked : check_entry c.args.end (last_of [] xs) x
    ≡ Ok tt = (λ i. check_entry c.args.end (sym inv.last_is i) (sym (part_is bytes (122 * k) 122) i))
    ∙ sym c.check_entry.ensures.checked ∙ c.in_default.is in
    record {
      whole = ap concat grown ∙ concat_more bytes xs k inv.whole;
      fields = subst (All HasItsFields) (sym c.in_default-push.ensures.items)
          (All-push HasItsFields c.reading.entries.items c.of_bytes.result inv.fields c.of_bytes.ensures.fields);
      pass = subst (PassChecks c.args.end []) (sym grown)
          (pass_push c.args.end [] xs x inv.pass (long_part bytes k c.args.count c.requires.whole (omega arith))
          checked);
      last_is = part_is bytes (122 * k) 122 ∙ sym (ap (last_of []) grown ∙ last_push [] xs x);
    }

pub returns-clause-read : goal.returns-clause-read
returns-clause-read c =
    let bytes = c.args.bytes.now in
    record {
      fields = c.reading.invariant.fields;
      whole = c.reading.invariant.whole ∙ take_all (122 * c.reading.index) bytes (omega (arith, c.requires.whole, c.reading-test.false));
      pass = c.reading.invariant.pass;
    }
