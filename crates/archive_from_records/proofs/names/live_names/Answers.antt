use Rattle.archive_from_records.proofs.names.live_names.Goals as goal

pub returns-clause-live : goal.returns-clause-live
returns-clause-live c = λ row. rw (← c.of_entries-retired.ensures) (c.keep_live.ensures.live row)

pub returns-clause-others_live : goal.returns-clause-others_live
returns-clause-others_live c = λ row. rw (← c.of_entries-retired.ensures) (c.keep_live-2.ensures.live row)
