use Rattle.std.proofs.Common.{rules, ℕ, ◌≡◌, ◌∙◌, ◌++◌, Err, ap, subst, sym}
use Rattle.byte_device.specs.Writes.{Puts}
use Rattle.byte_device.proofs.Gains.{puts_along, puts_then, stops_before}
use Rattle.table_checked_pages.specs.Pages.{stored}
use Rattle.table_symbols.proofs.making.TableText.write.Goals as goal

pub returns-in_err-before : goal.returns-in_err-before
returns-in_err-before g c =
    let held = g.W.Sink.held in
    let failures = g.W.Sink.failures in
    let same : c.from_residual-in_err-before.result ≡ Err c.in_err-before.field-0.0 = search rules in
    let fault = c.in_err-before.field-0.0 in
    let d = c.args.above.now in
    let f = c.deref.result.now in
    let rest = c.self.inside.strings.now ++ c.self.inside.lines.items in
    let text : d ++ (f ++ rest) ≡ stored c.args.self.now = ap (λ b. d ++ b) ((λ j. c.deref.ensures.value j ++ rest) ∙ c.self.view_is) ∙ c.requires.above in
    subst (Puts {T = ℕ} held failures (λ n. n) c.args.w.now c.put-2.new.w c.args.done (stored c.args.self.now)) (sym same)
    (puts_along held failures (λ n. n) c.args.w.now c.put-2.new.w c.args.done (d ++ (f ++ rest)) (stored c.args.self.now) (Err fault) text
    (puts_then held failures (λ n. n) c.args.w.now c.put.new.w c.put-2.new.w c.args.done c.in_ok-between.between d
    (f ++ rest) (Err fault) c.in_ok-between.ensures
    (stops_before held failures c.put.new.w c.put-2.new.w c.in_ok-between.between fault.written f rest c.in_err-before.ensures)))

pub returns-in_err-after : goal.returns-in_err-after
returns-in_err-after g c =
    let held = g.W.Sink.held in
    let failures = g.W.Sink.failures in
    let same : c.from_residual-in_err-after.result ≡ Err c.in_err-after.field-0.0 = search rules in
    let fault = c.in_err-after.field-0.0 in
    let d = c.args.above.now in
    let f = c.deref.result.now in
    let s = c.self.inside.strings.now in
    let l = c.self.inside.lines.items in
    let text : d ++ (f ++ (s ++ l)) ≡ stored c.args.self.now =
    ap (λ b. d ++ b) ((λ j. c.deref.ensures.value j ++ (s ++ l)) ∙ c.self.view_is) ∙ c.requires.above in
    subst (Puts {T = ℕ} held failures (λ n. n) c.args.w.now c.put-3.new.w c.args.done (stored c.args.self.now)) (sym same)
    (puts_along held failures (λ n. n) c.args.w.now c.put-3.new.w c.args.done (d ++ (f ++ (s ++ l))) (stored c.args.self.now) (Err fault) text
    (puts_then held failures (λ n. n) c.args.w.now c.put.new.w c.put-3.new.w c.args.done c.in_ok-between.between d
    (f ++ (s ++ l)) (Err fault) c.in_ok-between.ensures
    (puts_then held failures (λ n. n) c.put.new.w c.put-2.new.w c.put-3.new.w c.in_ok-between.between
    c.in_ok-before.before f (s ++ l) (Err fault) c.in_ok-before.ensures
    (stops_before held failures c.put-2.new.w c.put-3.new.w c.in_ok-before.before fault.written s l c.in_err-after.ensures))))

pub returns : goal.returns
returns g c =
    let held = g.W.Sink.held in
    let failures = g.W.Sink.failures in
    let d = c.args.above.now in
    let f = c.deref.result.now in
    let s = c.self.inside.strings.now in
    let l = c.deref-2.result.now in
    let text : d ++ (f ++ (s ++ l)) ≡ stored c.args.self.now =
    ap (λ b. d ++ b) ((λ j. c.deref.ensures.value j ++ (s ++ c.deref-2.ensures.value j)) ∙ c.self.view_is) ∙ c.requires.above in
    puts_along held failures (λ n. n) c.args.w.now c.put-4.new.w c.args.done (d ++ (f ++ (s ++ l))) (stored c.args.self.now) c.put-4.result text
    (puts_then held failures (λ n. n) c.args.w.now c.put.new.w c.put-4.new.w c.args.done c.in_ok-between.between d
    (f ++ (s ++ l)) c.put-4.result c.in_ok-between.ensures
    (puts_then held failures (λ n. n) c.put.new.w c.put-2.new.w c.put-4.new.w c.in_ok-between.between
    c.in_ok-before.before f (s ++ l) c.put-4.result c.in_ok-before.ensures
    (puts_then held failures (λ n. n) c.put-2.new.w c.put-3.new.w c.put-4.new.w c.in_ok-before.before
    c.in_ok-after.after s l c.put-4.result c.in_ok-after.ensures c.put-4.ensures)))
