use Rattle.shared_memory.proofs.table_store.calls.TableStoreSegmentStore.payload_size.Goals as goal

pub returns : goal.returns
returns g c = c.payload_size.ensures (g.P.Placing.rule c.args.self.now.placing)
