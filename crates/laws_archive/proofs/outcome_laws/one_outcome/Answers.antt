use Rattle.std.proofs.Common.{◌≡◌, ℕ, ◌-◌, List, length, map, sym, ap, ap₂, ◌∙◌}
use Rattle.archive_core.specs.Content.{Operations, IsContent, with_record, with_records, changes, new_among}
use Rattle.archive_core.specs.Record.{record_bytes, retirement_record}
use Rattle.archive_core.specs.Summary as exchange
use Rattle.archive_image_admission.specs.Take.{admitted}
use Rattle.archive_records.specs.Text.{IsOperationsText, summary_text, written}
use Rattle.text_reports.specs.Report.{admit_lines, apply_line, retire_line}
use Rattle.command_archives.specs.Admit.{admit_rows, images_of}
use Rattle.command_common.specs.Archives.{merged}
use Rattle.command_common.specs.Ends.{MakeOne, MakesArchive}
use Rattle.command_common.specs.Inputs.{Reader, HoldsArchive, IsGivenArchive}
use Rattle.command_common.specs.Outputs.{report_of, summary_report_of}
use Rattle.laws_archive.proofs.Given.{contents_given, is_given, one_given, texts_given}
use Rattle.laws_archive.proofs.outcome_laws.one_outcome.Goals as goal

-- one content and the same lines are one text and one report
of_content : (Makes Others : Operations → List ℕ → Type 0)
    → ((content other : Operations) (lines other_lines : List ℕ) → Makes content lines → Others other other_lines → (content ≡ other) × (lines ≡ other_lines))
    → MakeOne (MakesArchive Makes) (MakesArchive Others)
of_content Makes Others one text told other other_told makes others =
    let same = one makes.content others.content makes.lines others.lines makes.makes others.makes in (
      makes.text_is ∙ ap written same.0 ∙ sym others.text_is,
      makes.told_is ∙ (λ i. report_of (same.0 i) (same.1 i)) ∙ sym others.told_is,
    )

before : {Q R : Type 0} (input : Reader Q) (other : Reader R) (o p q : Operations) → IsContent o → IsContent p → IsContent q
    → IsGivenArchive input o → IsGivenArchive other o → HoldsArchive input p → HoldsArchive other q → p ≡ q
before input other o p q content c d given other_given holds other_holds =
    one_given input o p content c given holds ∙ sym (one_given other o q content d other_given other_holds)

pub returns : goal.returns
returns g c = record {
  admit = λ input other files others o texts content given other_given files_given others_given. of_content _ _ (λ _ _ _ _ m n.
      let old = before input other o m.before n.before content m.is_content n.is_content given other_given m.archive n.archive in
      let same = sym (texts_given files texts m.texts files_given m.files_are) ∙ texts_given others texts n.texts others_given n.files_are in (
        m.content_is ∙ (λ i. admitted (old i) (images_of (same i))) ∙ sym n.content_is,
        m.lines_are ∙ (λ i. admit_lines (admit_rows (old i) 0 (same i))) ∙ sym n.lines_are,
      ));
  retire = λ input other key digest o content given other_given. of_content _ _ (λ _ _ _ _ m n.
      let old = before input other o m.before n.before content m.is_content n.is_content given other_given m.archive n.archive in (
        m.content_is ∙ (λ i. with_record (old i) (retirement_record key digest.0)) ∙ sym n.content_is,
        m.lines_are ∙ (λ i. retire_line (changes (old i) (retirement_record key digest.0)) key digest) ∙ sym n.lines_are,
      ));
  merge = λ input other files others o contents content are given other_given files_given others_given. of_content _ _ (λ _ _ _ _ m n.
      let old = before input other o m.before n.before content m.is_content n.is_content given other_given m.archive n.archive in
      let same = contents_given files contents m.contents are m.are_contents files_given m.files_are
      ∙ sym (contents_given others contents n.contents are n.are_contents others_given n.files_are) in
      (m.content_is ∙ ap₂ merged old same ∙ sym n.content_is, m.lines_are ∙ sym n.lines_are));
  migrate = λ input other o content given other_given. of_content _ _ (λ p q _ _ m n.
      (before input other o p q content m.is_content n.is_content given other_given m.archive n.archive, m.lines_are ∙ sym n.lines_are));
  apply = λ input other ops others o text content given other_given ops_given others_given. of_content _ _ (λ _ _ _ _ m n.
      let old = before input other o m.before n.before content m.is_content n.is_content given other_given m.archive n.archive in
      let same = c.one_list_of_operations.ensures text m.operations n.operations (is_given ops text (λ t. IsOperationsText t m.operations) ops_given m.ops_are)
      (is_given others text (λ t. IsOperationsText t n.operations) others_given n.ops_are) in (
        m.content_is ∙ (λ i. with_records (old i) (map record_bytes (same i))) ∙ sym n.content_is,
        m.lines_are
            ∙ (λ i. apply_line (new_among (old i) (map record_bytes (same i))) (length (same i) - new_among (old i) (map record_bytes (same i))))
            ∙ sym n.lines_are,
      ));
  summary = λ archive other o content given other_given text told other_text other_told m n.
      let same = before archive other o m.have.content n.have.content content m.have.is_content n.have.is_content given other_given m.have.text n.have.text in
      let one = m.have.is_true ∙ ap (λ (p : Operations). exchange.summary p) same ∙ sym n.have.is_true in
      (m.text_is ∙ ap summary_text one ∙ sym n.text_is, m.told_is ∙ ap summary_report_of one ∙ sym n.told_is);
  delta = λ archive other named others o text content given other_given named_given others_given. of_content _ _ (λ _ _ _ _ m n.
      let old = before archive other o m.before n.before content m.is_content n.is_content given other_given m.archive_is n.archive_is in
      let said = is_given named text (λ t. t ≡ summary_text m.entries) named_given m.summary_is in
      let other_said = is_given others text (λ t. t ≡ summary_text n.entries) others_given n.summary_is in
      let same : m.entries ≡ n.entries = c.one_summary.ensures m.entries n.entries m.are_entries n.are_entries (sym said ∙ other_said) in
      (m.content_is ∙ ap₂ exchange.delta old same ∙ sym n.content_is, m.lines_are ∙ sym n.lines_are));
}
