use Rattle.std.proofs.Common.{length, ap, sym, ◌∙◌, arith, length-drop}
use Rattle.macho_symbols.specs.Symbols.{strings_of}
use Rattle.table_checked_pages.proofs.ReadLemmas.{passed_on}
use Rattle.table_source_frames.proofs.OpeningLemmas.{after_strings, head_read, opens_none, opens_not, opens_some, table_long}
use Rattle.table_source_frames.proofs.ByteLemmas.{found_in, found_no}
use Rattle.table_source_frames.proofs.table.LineTable.open.Goals as goal

pub returns-in_err-read-clause-read : goal.returns-in_err-read-clause-read
returns-in_err-read-clause-read g c =
    passed_on c.in_err-read.was c.from_residual.ensures.1
    (λ text known absent image all bytes stored pages is stands next.
    let rest = after_strings all (strings_of image) bytes c.args.strings c.args.offset stands next in
    absent all stored pages (omega (arith, rest.0, ap length rest.1, length-drop c.args.offset all, table_long image bytes is, c.read.auto.buf)))
    c.read.ensures.read

pub returns-then-head-eq0-clause-read : goal.returns-then-head-eq0-clause-read
returns-then-head-eq0-clause-read g c = record {
  says = λ text known image all bytes pages is stands next.
      let e = c.head_of-head.ensures in
      let rest = after_strings all (strings_of image) bytes c.args.strings c.args.offset stands next in
      let head = head_read all bytes c.read.new.buf _ c.args.offset c.head_of-head.result rest c.read.auto.buf
      (c.in_ok-read.ensures.read.says text known all pages)
      (record { lines = e.lines; steps = e.steps; step_bytes = e.step_bytes; scopes = e.scopes; files = e.files; texts = e.texts; bytes_of = e.bytes }) in
      opens_none image bytes c.head_of-head.result is head c.if-head-eq0.true;
  keeps = c.in_ok-read.ensures.read.keeps;
  counts = c.in_ok-read.ensures.read.counts;
}

pub returns-in_default-clause-read : goal.returns-in_default-clause-read
returns-in_default-clause-read g c = record {
  says = λ text known image all bytes stored pages is stands next.
      let e = c.head_of-head.ensures in
      let rest = after_strings all (strings_of image) bytes c.args.strings c.args.offset stands next in
      let head = head_read all bytes c.read.new.buf _ c.args.offset c.head_of-head.result rest c.read.auto.buf
      (c.in_ok-read.ensures.read.says text known all pages)
      (record { lines = e.lines; steps = e.steps; step_bytes = e.step_bytes; scopes = e.scopes; files = e.files; texts = e.texts; bytes_of = e.bytes }) in
      opens_not image all bytes c.args.offset c.size.result c.head_of-head.result rest is head c.if-head-eq0.false
      (stored.size ∙ ap (λ claim. claim.size) (sym c.in_ok-read.ensures.claim) ∙ sym c.size.ensures) (c.table.ensures.none c.in_default.is);
  keeps = c.in_ok-read.ensures.read.keeps;
  counts = c.in_ok-read.ensures.read.counts;
}

pub returns-clause-read : goal.returns-clause-read
returns-clause-read g c = record {
  says = λ text known image all bytes pages is stands next.
      let e = c.head_of-head.ensures in
      let rest = after_strings all (strings_of image) bytes c.args.strings c.args.offset stands next in
      let head = head_read all bytes c.read.new.buf _ c.args.offset c.head_of-head.result rest c.read.auto.buf
      (c.in_ok-read.ensures.read.says text known all pages)
      (record { lines = e.lines; steps = e.steps; step_bytes = e.step_bytes; scopes = e.scopes; files = e.files; texts = e.texts; bytes_of = e.bytes }) in
      let made = c.in-Some.ensures in
      opens_some image all bytes text _ c.args.strings c.args.offset c.head_of-head.result c.in-Some.table
      (c.in_ok-read.ensures.keeps text all known pages) stands next is head c.if-head-eq0.false
      (record {
        strings_is = made.strings;
        offset_is = made.offset;
        steps = made.steps;
        step_bytes = made.step_bytes;
        scopes = made.scopes;
        files = made.files;
        texts = made.texts;
        bytes = made.bytes;
      });
  keeps = c.in_ok-read.ensures.read.keeps;
  counts = c.in_ok-read.ensures.read.counts;
}

pub returns-then-head-eq0-clause-bytes : goal.returns-then-head-eq0-clause-bytes
returns-then-head-eq0-clause-bytes g c = λ text all known pages.
    let e = c.head_of-head.ensures in
    found_no all c.read.new.buf _ c.args.offset c.args.pages.now.claim.size c.head_of-head.result c.read.auto.buf
    (omega (arith, c.read.auto.buf, c.in_ok-read.ensures.within (omega (arith, c.read.auto.buf))))
    (c.in_ok-read.ensures.read.says text known all pages)
    (record { lines = e.lines; steps = e.steps; step_bytes = e.step_bytes; scopes = e.scopes; files = e.files; texts = e.texts; bytes_of = e.bytes })
    pages.stored.size c.if-head-eq0.true

pub returns-clause-bytes : goal.returns-clause-bytes
returns-clause-bytes g c = λ text all known pages.
    let e = c.head_of-head.ensures in
    let made = c.in-Some.ensures in
    found_in all c.read.new.buf _ c.args.strings c.args.offset c.args.pages.now.claim.size c.head_of-head.result c.in-Some.table c.read.auto.buf
    (omega (arith, c.read.auto.buf, c.in_ok-read.ensures.within (omega (arith, c.read.auto.buf))))
    (c.in_ok-read.ensures.read.says text known all pages)
    (record { lines = e.lines; steps = e.steps; step_bytes = e.step_bytes; scopes = e.scopes; files = e.files; texts = e.texts; bytes_of = e.bytes })
    pages.stored.size (made.adds ∙ c.size.ensures ∙ ap (λ claim. claim.size) c.in_ok-read.ensures.claim) c.if-head-eq0.false
    (record {
      strings_is = made.strings;
      offset_is = made.offset;
      steps = made.steps;
      step_bytes = made.step_bytes;
      scopes = made.scopes;
      files = made.files;
      texts = made.texts;
      bytes = made.bytes;
    })
