use Rattle.remaining_stores.proofs.ByKind.{preferring, preference_left, plain_left}
use Rattle.remaining_stores.proofs.remaining.deliver.Goals as goal

pub deliver_all-requires : goal.deliver_all-requires
deliver_all-requires c = c.requires.0

pub deliver_used-requires : goal.deliver_used-requires
deliver_used-requires c = preferring c.requires c.in-Preference.is

pub returns-in-Plain : goal.returns-in-Plain
returns-in-Plain c = plain_left c.requires c.in-Plain.is c.deliver_all.ensures

pub returns-in-Preference : goal.returns-in-Preference
returns-in-Preference c = preference_left c.requires c.in-Preference.is c.deliver_used.ensures
